use Rattle.ib_io.proofs.Writing.{puts_on}
use Rattle.ib_tool.proofs.print.CountTextPrinted.print.Goals as goal

pub returns : goal.returns
returns g c =
    let value = c.as_slice-sessions.ensures.value in
    let p1 = rw value at c.print_kind.ensures.puts in
    let p2 = rw value at c.print_kind-2.ensures.puts in
    let p3 = rw value at c.print_kind-3.ensures.puts in
    let p4 = rw value at c.print_kind-4.ensures.puts in
    let p5 = rw value at c.print_kind-5.ensures.puts in
    let p6 = rw value at c.print_kind-6.ensures.puts in
    let p7 = rw value at c.print_kind-7.ensures.puts in
    let p8 = rw c.all_pairs.ensures at c.print_count.ensures.puts in
    record { puts = puts_on (puts_on (puts_on (puts_on (puts_on (puts_on (puts_on p1 p2) p3) p4) p5) p6) p7) p8 }
