-- What the calls on a space's handle come to, case by case.
use Rattle.std.proofs.Common.{◌≡◌, ℕ, true, false, Option, Some, None, refl}
use Rattle.std.proofs.lemmas.Bool.{true≢false, false≢true}
use Rattle.std.specs.Prelude.{is_some, Ok, Err}
use Rattle.ib_c.specs.declared.status.Status.{Status}
use Rattle.ib_c.specs.declared.status.Status.TheVariants.{Done, InUse, NoHandle, WrongState}
use Rattle.ib_c.specs.declared.space.Space.{Space}
use Rattle.ib_c.specs.declared.space.Space.TheVariants.{Open, Closed, Gone}
use Rattle.ib_c.specs.SessionState.{SessionState}
use Rattle.ib_c.specs.SpaceStates.{OpenState}
use Rattle.ib_c.specs.Spaces.{HasClosedSpace, HasConnectedTo, HasDisconnectedFrom, HasOpened, IsFromSpace, IsNotConnected, IsNotDisconnected, is_open}
use Rattle.ib_c.specs.SpaceCalls.{HasClosedHandle, HasConnectedHandle, HasDisconnectedHandle, HasFreedHandle, HasOpenedHandle, IsGenuine}
use Rattle.ib_c.specs.Statuses.{status_number}

pub open_in_use : (p w n : ℕ) (s : Option Space) (r : ℕ) → is_some s ≡ true → r ≡ status_number InUse → HasOpenedHandle p w n s r s
open_in_use p w n None r live told = absurd (false≢true live)
open_in_use p w n (Some s) r live told = (told, refl)

pub open_not : (p w n : ℕ) (s : Option Space) (r : ℕ) (e : Status) → is_some s ≡ false → r ≡ status_number e → HasOpened p w n (Err e) → HasOpenedHandle p w n s r s
open_not p w n None r e dead told why = (e, told, why)
open_not p w n (Some s) r e dead told why = absurd (true≢false dead)

pub open_done : (p w n : ℕ) (s q : Option Space) (r : ℕ) (o : OpenState) → is_some s ≡ false → r ≡ status_number Done → HasOpened p w n (Ok o) → q ≡ Some (Open o) → HasOpenedHandle p w n s r q
open_done p w n None q r o dead told opened after = rw after (told, opened)
open_done p w n (Some s) q r o dead told opened after = absurd (true≢false dead)

pub connect_in_use : (s : Option Space) (x : Option SessionState) (r : ℕ) → is_some x ≡ true → r ≡ status_number InUse → HasConnectedHandle s x r s x
connect_in_use s None r live told = absurd (false≢true live)
connect_in_use s (Some x) r live told = (told, refl, refl)

pub connect_nowhere : (s q : Option Space) (x : Option SessionState) (r : ℕ) → is_some x ≡ false → s ≡ None → q ≡ None → r ≡ status_number NoHandle → HasConnectedHandle s x r q x
connect_nowhere s q None r dead none after told = rw none (told, after, refl)
connect_nowhere s q (Some x) r dead none after told = absurd (true≢false dead)

pub connect_not : (s q : Option Space) (x : Option SessionState) (r : ℕ) (a : Space) (e : Status) → is_some x ≡ false → s ≡ Some a → q ≡ Some a → r ≡ status_number e → IsNotConnected a e → HasConnectedHandle s x r q x
connect_not s q None r a e dead is after told why = rw is (e, told, after, why)
connect_not s q (Some x) r a e dead is after told why = absurd (true≢false dead)

pub connect_done : (s q : Option Space) (x y : Option SessionState) (r : ℕ) (a b : Space) (z : SessionState) → is_some x ≡ false → s ≡ Some a → q ≡ Some b → y ≡ Some z → r ≡ status_number Done → HasConnectedTo a z b → HasConnectedHandle s x r q y
connect_done s q None y r a b z dead is after has told done = rw (is, has) (b, told, after, done)
connect_done s q (Some x) y r a b z dead is after has told done = absurd (true≢false dead)

pub disconnect_nowhere : (s q : Option Space) (x : Option SessionState) (r : ℕ) → s ≡ None → q ≡ None → r ≡ status_number NoHandle → HasDisconnectedHandle s x r q x
disconnect_nowhere s q x r none after told = rw none (told, after, refl)

pub disconnect_nobody : (s q : Option Space) (x y : Option SessionState) (r : ℕ) (a : Space) → s ≡ Some a → q ≡ Some a → x ≡ None → y ≡ None → r ≡ status_number NoHandle → HasDisconnectedHandle s x r q y
disconnect_nobody s q x y r a is after none nobody told = rw (is, none) (told, after, nobody)

pub disconnect_done : (s q : Option Space) (x y : Option SessionState) (r : ℕ) (a b : Space) (z : SessionState) → s ≡ Some a → q ≡ Some b → x ≡ Some z → y ≡ None → r ≡ status_number Done → HasDisconnectedFrom a z b → HasDisconnectedHandle s x r q y
disconnect_done s q x y r a b z is after has gone told done = rw (is, has, gone) (b, told, after, done)

pub disconnect_not : (s q : Option Space) (x y : Option SessionState) (r : ℕ) (a : Space) (z : SessionState) (e : Status) → s ≡ Some a → q ≡ Some a → x ≡ Some z → y ≡ Some z → r ≡ status_number e → IsNotDisconnected a z e → HasDisconnectedHandle s x r q y
disconnect_not s q x y r a z e is after has still told why = rw (is, has, still) (e, told, after, refl, why)

pub close_nowhere : (s q : Option Space) (r : ℕ) → s ≡ None → q ≡ None → r ≡ status_number NoHandle → HasClosedHandle s r q
close_nowhere s q r none after told = rw none (told, after)

pub close_done : (s q : Option Space) (r : ℕ) (a b : Space) (e : Status) → s ≡ Some a → q ≡ Some b → r ≡ status_number e → HasClosedSpace a e b → HasClosedHandle s r q
close_done s q r a b e is after told done = rw is (e, b, told, after, done)

pub free_nowhere : (s q : Option Space) (r : ℕ) → s ≡ None → q ≡ None → r ≡ status_number NoHandle → HasFreedHandle s r q
free_nowhere s q r none after told = rw none (told, after)

pub free_open : (s q : Option Space) (r : ℕ) (a : Space) → s ≡ Some a → q ≡ Some a → is_open a ≡ true → r ≡ status_number WrongState → HasFreedHandle s r q
free_open s q r (Open o) is after opened told = rw is (told, after)
free_open s q r (Closed c) is after opened told = absurd (false≢true opened)
free_open s q r Gone is after opened told = absurd (false≢true opened)

pub free_done : (s q : Option Space) (r : ℕ) (a : Space) → s ≡ Some a → q ≡ None → is_open a ≡ false → r ≡ status_number Done → HasFreedHandle s r q
free_done s q r (Open o) is after closed told = absurd (true≢false closed)
free_done s q r (Closed c) is after closed told = rw is (told, after)
free_done s q r Gone is after closed told = rw is (told, after)

pub genuine_from : (s : Option Space) (x : Option SessionState) (a : Space) (z : SessionState) → s ≡ Some a → x ≡ Some z → IsGenuine s x → IsFromSpace a z
genuine_from s x a z is has genuine = rw (is, has) at genuine
