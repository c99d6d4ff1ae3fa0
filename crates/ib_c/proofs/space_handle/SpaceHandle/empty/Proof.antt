-- `empty` points nowhere, and owns nothing.
use Rattle.std.specs.Prelude.{None}
use mathlib.Core.Path.{refl}
use mathlib.Core.List.{List, [], ◌∷◌}
use lib.Dec.{lit<}
use mir.Val.{Val, vint, vstruct, vcons, vnil}
use mir.Syntax.{w64}
use base.Logic.{id⊢}
use denote.Struct.Struct.{within}
use denote.Struct.Owning.{shape}
use types.Kit.{‵, raw, ◌⊛◌, ◌$◌, ◌∵◌, !, qed, move, keep, drop, use1, join, split, fsplit, fjoin, fpack, feq_i, suffices, done}
use types.Part.{agg}
use types.Run.{lit, no_more, and_then, returns, enter}
use types.ByLocal.{alloc_all, pass_all, free_all, look_at, get, sets}
use contract.Running.{tables}
use denote.Exit.{yes}
use denote.RattleType.{Valss, owns}
use denote.RawPtr.{null_ptr}
use denote.Builtin.{RawPtr}
use denote.Signature.{plain, types_at}
use denote.Steps.{nothing}
use denote.Triple.Entry.{alive}
use denote.Triple.Walked.{says, Stays, stay_dropped, walk_of, ends_at, Goes-dropped}
use Rattle.std.proofs.raw_atomic.Walks.{proved}
use Rattle.std_heap.specs.contracts.Global as Heap
use Rattle.std_heap.proofs.Handle.{heap_val, heap_Tells}
use Rattle.ib_c.specs.contracts.space_handle.SpaceHandle as Handle
use Rattle.ib_c.specs.contracts.space_handle.SpaceHandle.empty as F
use Rattle.ib_c.specs.contracts.space_handle.SpaceHandle.empty.Key.{name as #self}
use Rattle.ib_c.proofs.space_handle.SpaceHandle.empty.Statement.{statement}
use Rattle.ib_c.proofs.space_handle.SpaceHandle.empty.Code as code

abbrev stayed : Stays F.ended.signature.params F.ended.kept
stayed = (stay_dropped (plain (λ _. Heap.the_row)) yes, tt)

abbrev word : Val
word = vstruct (vcons (vint w64 0) (vcons heap_val vnil))

pub empty_spec : {M : Type 1} → statement M
empty_spec 𝓤 𝓛 𝓜 𝓡 wired =
    let c = F.clauses 𝓛 𝓜.mem 𝓡.returns in let W = walk_of 𝓛 F.ended stayed c in let 𝓣 = tables 𝓤 𝓛.H 𝓜 𝓡 𝓡.env in
    proved 𝓛 F.ended stayed c 𝓜 𝓡 (Goes-dropped 𝓛 0 (plain (λ _. Heap.the_row)) yes (λ κs x w. refl), tt)
    #self code.function (code.unfolded 𝓤 𝓛.H 𝓜 𝓡 wired)
    (λ κs. ((λ _. heap_val ∷ []), tt)) (λ κs. (heap_Tells, tt)) (λ κs qs bounds a g are.
    let y : W.Ghost = ((κs, qs, bounds, a, (heap_val ∷ [], tt)), g) in
    let made : Handle.the_row.Denot = record { at = null_ptr; alloc = a.0; held = None } in
    qed 𝓛 ((raw (alive 𝓛 F.ended.signature κs qs) ⊛ ‵ (owns (types_at F.ended.signature.params κs) a y.0.4)) ∷ raw ((c κs a).requires g) ∷ []) ∵
    split ! $ move ! (1 ∷ []) $ fsplit ! $ keep ! (0 ∷ 2 ∷ []) $
    enter ! _ _ _ _ _ $ alloc_all ! (λ l. pass_all ! refl ((tt, ((tt, tt), tt)), tt) $
    sets ! (agg ! (and_then ! (lit ! tt) (and_then ! (get ! refl) (no_more !)))) refl (tt, (record { fits = lit< tt }, (((tt, tt), tt), tt))) $
    returns ! (look_at ! 0 refl) $ free_all ! refl $ move ! (1 ∷ []) $ drop ! $
    nothing ! $ nothing ! $ move ! (2 ∷ 0 ∷ []) $ fjoin ! $ feq_i ! (List Val) (vint w64 0 ∷ []) (vint w64 0 ∷ []) refl $ fjoin ! $ feq_i ! (List Val) (word ∷ []) (word ∷ []) refl $ fjoin ! $
    fpack ! (Valss (RawPtr ∷ Heap.the_row ∷ [])) (within (shape Handle.the_type) (null_ptr, (((a.0.memory.seal, tt), tt), tt)) (word ∷ [])) (vint w64 0 ∷ [], (heap_val ∷ [], tt)) $ fjoin ! $
    use1 𝓛 (‵ (Handle.the_row.own_val made (word ∷ []))) (id⊢ 𝓤 _) $
    suffices ! _ (ends_at 𝓛 F.ended stayed c y word made (tt, tt) (tt, tt)) $ says ! refl $
    nothing ! $ nothing ! $ fjoin ! $ join ! $ nothing ! $ join ! $ done !))
