-- The bytes are laid out as an image file, and restore what stands behind their front.
use Rattle.std.proofs.Common.{◌≡◌, ◌≤◌, ◌∙◌, ℕ, List, length, sym, ap, subst, arith}
use Rattle.std.proofs.lemmas.Result.{err_from_is_err_and}
use Rattle.ib_replay.specs.Files.{AreWords, word_bytes}
use Rattle.ib_image.specs.declared.fault.ImageFault.TheVariants.{OutOfMemory}
use Rattle.ib_image.specs.ImageFiles.{IsLaidOut, number_of}
use Rattle.ib_image.specs.Parsed.{copy_in, tail_in}
use Rattle.ib_image.proofs.ParsedLaws.{laid-out}
use Rattle.ib_image.proofs.RestoreLaws.{fault-bytes, restored-bytes}
use Rattle.ib_image.proofs.reading.restore_bytes.Goals as goal
use Rattle.ib_image.proofs.reading.restore_bytes.Goals.{After-deref}

laid-out-now : (c : After-deref) → IsLaidOut c.args.bytes.now c.in_ok-front.front.first (copy_in c.deref.result.now c.in_ok-front.front.pages) (tail_in c.deref.result.now c.in_ok-front.front.pages)
laid-out-now c =
    let same = c.deref.ensures.value in
    let whole : number_of c.in_ok-front.front.pages ≤ length c.deref.result.now =
    (let a = ap (λ (ws : List ℕ). length ws) same in let b = c.in_ok-numbers.ensures.size in let d = (let h = c.in_ok-front.ensures.front in h.whole) in omega arith) in
    laid-out c.args.bytes.now c.deref.result.now c.in_ok-front.front (ap word_bytes same ∙ c.in_ok-numbers.ensures.numbers) (subst AreWords (sym same) c.in_ok-numbers.ensures.fits) c.in_ok-front.ensures.front whole

pub returns-in_err-front-clause-memory : goal.returns-in_err-front-clause-memory
returns-in_err-front-clause-memory c = λ is.
    let p = err_from_is_err_and c.from_residual.result c.from_residual.ensures.1 in
    let same : c.in_err-front.field-0.0 ≡ OutOfMemory = (let q = sym p.1 ∙ is in let r = p.2 in cc) in absurd (c.in_err-front.ensures.memory same)

pub returns-clause-restored : goal.returns-clause-restored
returns-clause-restored c =
    let at = (goal.at.returns-clause-restored c).After-deref in
    restored-bytes c.args.bytes.now c.in_ok-front.front.first (copy_in c.deref.result.now c.in_ok-front.front.pages) (tail_in c.deref.result.now c.in_ok-front.front.pages) (laid-out-now at) c.restore_behind.result c.restore_behind.ensures.restored

pub returns-clause-fault : goal.returns-clause-fault
returns-clause-fault c =
    let at = (goal.at.returns-clause-fault c).After-deref in
    fault-bytes c.args.bytes.now c.in_ok-front.front.first (copy_in c.deref.result.now c.in_ok-front.front.pages) (tail_in c.deref.result.now c.in_ok-front.front.pages) (laid-out-now at) c.restore_behind.result c.restore_behind.ensures.fault
