-- A session that holds a page with a look, and a mini-transaction that ends without a change.
use Rattle.std.specs.List.{AllByRecursion}
use Rattle.std.proofs.Common.{◌≡◌, ℕ, ◌+◌, true, false, List, ◌++◌, length, take, refl, sym, ap, subst, ◌∙◌}
use Rattle.std.proofs.lemmas.List.{take_at}
use Rattle.ib_map.specs.Space.{has_pages}
use Rattle.ib_map.specs.Writes.{touches}
use Rattle.ib_layout.specs.Geometry.{Sizes}
use Rattle.ib_logrec.specs.declared.entry.Entry.{Entry}
use Rattle.ib_planned_log.specs.Kept.{IsKeptLog}
use Rattle.ib_planned_log.specs.LeafChange.{kept_pages}
use Rattle.ib_rule.specs.declared.memory.Knowledge.{Knowledge}
use Rattle.ib_rule.specs.Pass.{PassState}
use Rattle.ib_rule.specs.Roles.{session_number_of}
use Rattle.ib_rule.specs.Views.{is_watched}
use Rattle.ib_rule.proofs.Watching.{untouched}
use Rattle.ib_mtr.specs.Commits.{HasRead}
use Rattle.ib_leaf.specs.Ends.{IsEnd}
use Rattle.ib_leaf.proofs.CallLaws.{read-end}
use Rattle.ib_hash.proofs.LogLaws.{page-calm}

module _ (sizes : Sizes) (fits : has_pages sizes.pages ≡ true) (q : PassState) (place : ℕ) (r : PassState) (read : HasRead sizes (IsKeptLog sizes.pages) q place r) where
  pub seen-r : r.view.memory.seen ≡ q.view.memory.seen ++ read.looked.others
  seen-r = ap (λ (m : Knowledge). m.seen) read.ended.memory ∙ sym read.looked.longer

  pub legal-r : IsKeptLog sizes.pages r.view.memory.seen
  legal-r = subst (IsKeptLog sizes.pages) (sym (ap (λ (m : Knowledge). m.seen) read.ended.memory)) read.looked.legal

  pub front-r : take (length q.view.memory.seen) r.view.memory.seen ≡ q.view.memory.seen
  front-r = ap (take (length q.view.memory.seen)) seen-r ∙ take_at q.view.memory.seen read.looked.others (length q.view.memory.seen) refl

  pub end-r : IsEnd q r place
  end-r = read-end sizes (IsKeptLog sizes.pages) q r read.log place q.view.grants read.looked read.place read.ended

  -- a page that was watched
  module _ (page : ℕ) (watched : is_watched (page + 2) q.view.memory.since ≡ true) where
    pub calm-r : AllByRecursion (λ e. touches page e.writes ≡ false) read.looked.others
    calm-r = untouched (session_number_of q.view.role) page q.view.memory.since read.looked.others watched read.looked.harmless

    pub page-r : kept_pages sizes.pages r.view.memory.seen page ≡ kept_pages sizes.pages q.view.memory.seen page
    page-r = ap (λ (log : List Entry). kept_pages sizes.pages log page) seen-r ∙ page-calm sizes fits q.view.memory.seen read.looked.others page calm-r
