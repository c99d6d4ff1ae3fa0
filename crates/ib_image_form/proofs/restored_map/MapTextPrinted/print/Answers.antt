use Rattle.ib_image_form.proofs.restored_map.MapTextPrinted.print.Goals as goal

pub returns : goal.returns
returns g c = record { puts = rw (c.all_pairs.ensures, c.map.ensures) at c.print_map.ensures.puts }
