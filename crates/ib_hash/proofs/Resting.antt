-- The machine value of a resting seat.
use Rattle.std.proofs.Common.{◌≡◌, ℕ, T, List, [], ◌∷◌, ◌++◌, ap, ◌∙◌}
use mir.Val.{Val, vstruct, vcons, vnil, of_list}
use denote.RattleType.{RattleType}
use denote.Laws.{Is}
use seplogic.Ra.Ura.{Ura}
use base.Logic.{via}
use types.Logic.{Logic}
use contract.Lifetimes.{Lfts}
use denote.Exit.{Kept, Last, left}
use denote.Signature.{Slot}
use denote.Param.Mute.{blank, had}
use denote.Triple.Walked.{Goes, stay_dropped}
use denote.Builtin.{unit}
use Rattle.atomic_table.specs.contracts.shared.Seat as seat
use Rattle.atomic_table.proofs.Fields.{token_val, token_told}
use Rattle.ib_hash.specs.contracts.view.GuessSteps as view
use Rattle.ib_hash.specs.contracts.own_seat.OwnSeat as rest

abbrev pub Nothing : RattleType
Nothing = unit

abbrev pub Sr : RattleType
Sr = seat.the_row Nothing view.the_row

abbrev pub Rr : RattleType
Rr = rest.the_row

abbrev pub rest_val : Val
rest_val = vstruct (vcons token_val vnil)

pub seat_told : (d : Sr.Denot) (vs : List Val) → Is Sr d vs → vs ≡ token_val ∷ []
seat_told d vs so = token_told Nothing view.the_row vs so.0

pub rest_told : (d : Rr.Denot) (vs : List Val) → Is Rr d vs → vs ≡ rest_val ∷ []
rest_told d vs so = let is = so.0 in is.1.0 ∙ ap (λ (ws : List Val). vstruct (of_list (ws ++ [])) ∷ []) (seat_told d.seat is.0.0 is.1.1.0)

pub Goes-blank : {M : Type 1} {𝓤 : Ura M} (𝓛 : Logic 𝓤) (n : ℕ) (s : Slot n) (k : Kept)
    → ((κs : Lfts n) (x : (s.row κs).Denot) (f : Last ((s.row κs).exit k) x) → T (blank (left ((s.row κs).exit k) x f))) → Goes 𝓛 n s k (stay_dropped s k)
Goes-blank {𝓤 = 𝓤} 𝓛 n s k is κs x f vs ok = via 𝓤 _ (had 𝓛 (left ((s.row κs).exit k) x f) (is κs x f)) (𝓛.laws.⇛_intro _)
