-- What a session alone is answered, and what the log says, follow from its calls, where no log gets full.
use Rattle.std.proofs.Common.{◌≡◌, ◌≢◌, ◌∙◌, ℕ, zero, suc, ◌+◌, ◌≤◌, List, [], ◌∷◌, true, length, take, get_or, refl, sym, ap, subst, arith, inl, inr}
use Rattle.std.specs.List.{AllByRecursion, filter_map}
use Rattle.std.proofs.lemmas.Bool.{cases_Bool, cases_eq}
use Rattle.std.proofs.Math.ListN.{get_or-map}
use Rattle.std.proofs.lemmas.List.{ext_get_or, length-map, take_all}
use Rattle.ib_map.specs.Map.{is_made}
use Rattle.ib_map.specs.History.{changes_of}
use Rattle.ib_map.specs.Replies.{Fits, FitsCall, FullRecord, Span}
use Rattle.ib_map.specs.Runs.{AreAnswers, Runs, change_made, first_place, first_span_place, reach_after}
use Rattle.ib_map.specs.declared.call.Call.{Call}
use Rattle.ib_map.specs.declared.call.Change.{Change}
use Rattle.ib_map.specs.declared.call.Reply.{Reply}
use Rattle.ib_map.proofs.RunLaws.{AreAnswers-weaker}
use Rattle.ib_walk.proofs.ChoiceLaws.{Some-same}
use Rattle.ib_layout.specs.Geometry.{Sizes}
use Rattle.ib_logrec.specs.declared.entry.Entry.{Entry}
use Rattle.ib_logrec.specs.Log.{by_place, history_of}
use Rattle.ib_logrec.proofs.LogLaws.{length-history_of}
use Rattle.ib_tree.specs.Fits.{FitsLog, FitsTree}
use Rattle.ib_tree.specs.Logs.{pages_after}
use Rattle.ib_tree.specs.TreeLog.{opening}
use Rattle.ib_planned_log.specs.Kept.{IsKeptLog}
use Rattle.ib_runs.specs.Alone.{AreNeverFull, IsNotFull, IsAlone}
use Rattle.ib_runs.specs.Answers.{calls_in}
use Rattle.ib_runs.specs.Outcomes.{IsOutcome}
use Rattle.ib_runs.specs.Sessions.{index_space}
use Rattle.ib_runs.proofs.AlonePageLaws.{HasChange, SaySame, SaySame-next}
use Rattle.ib_runs.proofs.AlonePlaceLaws.{all-own, at-reach, made}
use Rattle.ib_runs.proofs.AloneReplyLaws.{HasMade, call-entry, reply-one}
use Rattle.ib_runs.proofs.FullLogLaws.{room_at}

record-is : Call → Reply → ℕ → List Span → FullRecord
record-is call reply place spans = record { call = call; reply = reply; place = place; spans = spans }

same-fields : (r q : FullRecord) → r.call ≡ q.call → r.reply ≡ q.reply → r.place ≡ q.place → r.spans ≡ q.spans → r ≡ q
unfolding record-is
same-fields r q a b c d =
    ap (λ x. record-is x r.reply r.place r.spans) a ∙ (ap (λ x. record-is q.call x r.place r.spans) b ∙ (ap (λ x. record-is q.call q.reply x r.spans) c ∙ ap (record-is q.call q.reply q.place) d))

-- two logs in which nobody but this session changed anything
module _ (sizes : Sizes) (log other : List Entry) (session : ℕ) (kept : IsKeptLog sizes.pages log) (also : IsKeptLog sizes.pages other) where
  abbrev FitsOne : ℕ → FullRecord → Type 0
  FitsOne = FitsLog (index_space sizes) log session

  abbrev FitsOther : ℕ → FullRecord → Type 0
  FitsOther = FitsLog (index_space sizes) other session

  abbrev SayUpTo : ℕ → Type 0
  SayUpTo n = SaySame sizes.pages (take n log) (take n other)

  -- a change of both at a place takes them one further
  made-next : (n : ℕ) (call : Call) → SayUpTo n → HasMade log session call n → HasMade other session call n → SayUpTo (suc n)
  made-next n call same x y =
      let change : y.change ≡ x.change = Some-same y.change x.change (sym y.asked ∙ x.asked) in
      SaySame-next sizes.pages log other n same session x.change kept also x.stands (subst (λ (c : Change). HasChange other n session c) change y.stands)

  -- one record fits where both say the same so far, and then they say the same as far as their session has seen
  same-record : (n : ℕ) (r q : FullRecord) → SayUpTo n → r.call ≡ q.call → r.place ≡ n → q.place ≡ n → FitsOne n r → FitsOther n q → n ≤ first_place r → n ≤ first_place q
      → IsNotFull r.reply → IsNotFull q.reply → (r ≡ q) × SayUpTo (reach_after r)
  same-record n r q same call at too f g first begins room roomy =
      let fits : FitsCall (history_of log) session n r.call r.reply n r.spans = subst (λ (k : ℕ). FitsCall (history_of log) session n r.call r.reply k r.spans) at f.map.1 in
      let tree : FitsTree (index_space sizes) log r.call r.reply n r.spans = subst (λ (k : ℕ). FitsTree (index_space sizes) log r.call r.reply k r.spans) at f.tree in
      let fits' : FitsCall (history_of other) session n r.call q.reply n q.spans =
      subst (λ (c : Call). FitsCall (history_of other) session n c q.reply n q.spans) (sym call) (subst (λ (k : ℕ). FitsCall (history_of other) session n q.call q.reply k q.spans) too g.map.1) in
      let tree' : FitsTree (index_space sizes) other r.call q.reply n q.spans =
      subst (λ (c : Call). FitsTree (index_space sizes) other c q.reply n q.spans) (sym call) (subst (λ (k : ℕ). FitsTree (index_space sizes) other q.call q.reply k q.spans) too g.tree) in
      let starts : n ≤ first_span_place r.spans n = subst (λ (k : ℕ). n ≤ first_span_place r.spans k) at first in
      let starts' : n ≤ first_span_place q.spans n = subst (λ (k : ℕ). n ≤ first_span_place q.spans k) too begins in
      let both = reply-one sizes log other session n kept also same r.call r.reply q.reply r.spans q.spans fits fits' tree tree' room roomy starts starts' in (
        same-fields r q call both.0 (at ∙ sym too) both.1,
        elim (cases_Bool (is_made r.reply)) [
          | inr not_so ↦
              let reach : reach_after r ≡ n = (rw not_so refl) ∙ at in
              subst SayUpTo (sym reach) same
          | inl done_so ↦
              let yet : is_made q.reply ≡ true = ap is_made (sym both.0) ∙ done_so in
              let after : reach_after r ≡ r.place + 1 = rw done_so refl in
              let reach : reach_after r ≡ suc n = omega arith in
              let x = call-entry log session n r.call r.reply n r.spans fits done_so in
              let y = call-entry other session n r.call q.reply n q.spans fits' yet in
              subst SayUpTo (sym reach) (made-next n r.call same x y)
        ],
      )

  by-map : (reach : ℕ) (rs : List FullRecord) → AreAnswers FitsOne reach rs → AreAnswers (Fits (history_of log) session) reach rs
  by-map reach rs are = AreAnswers-weaker FitsOne (Fits (history_of log) session) (λ n r f. f.map) reach rs are

  by-other : (reach : ℕ) (rs : List FullRecord) → AreAnswers FitsOther reach rs → AreAnswers (Fits (history_of other) session) reach rs
  by-other reach rs are = AreAnswers-weaker FitsOther (Fits (history_of other) session) (λ n r f. f.map) reach rs are

  -- its calls fix its records and what the logs say
  pub same-records : (reach : ℕ) (rs qs : List FullRecord) → SayUpTo reach → calls_in rs ≡ calls_in qs → AreAnswers FitsOne reach rs → AreAnswers FitsOther reach qs
      → AllByRecursion (λ r. IsNotFull r.reply) rs → AllByRecursion (λ r. IsNotFull r.reply) qs → reach + made rs ≡ length (history_of log) → reach + made qs ≡ length (history_of other)
      → (rs ≡ qs) × SaySame sizes.pages log other
  same-records reach [] [] same calls are too room roomy full whole =
      let all : take reach log ≡ log = take_all reach log (omega (arith, full, length-history_of log)) in
      let each : take reach other ≡ other = take_all reach other (omega (arith, whole, length-history_of other)) in
      (refl, subst (λ (es : List Entry). SaySame sizes.pages es other) all (subst (λ (es : List Entry). SaySame sizes.pages (take reach log) es) each same))
  same-records reach [] (q ∷ qs) same calls are too room roomy full whole = absurd (cc)
  same-records reach (r ∷ rs) [] same calls are too room roomy full whole = absurd (cc)
  same-records reach (r ∷ rs) (q ∷ qs) same calls are too room roomy full whole =
      let call : r.call ≡ q.call = cc in
      let rest : calls_in rs ≡ calls_in qs = cc in
      let at = at-reach (history_of log) session reach r rs (by-map reach (r ∷ rs) are) full in
      let there = at-reach (history_of other) session reach q qs (by-other reach (q ∷ qs) too) whole in
      let one = same-record reach r q same call at.0 there.0 are.0 too.0 are.2 too.2 room.0 roomy.0 in
      let seen : reach_after q ≡ reach_after r = ap reach_after (sym one.0) in
      let behind : AreAnswers FitsOther (reach_after r) qs = subst (λ (n : ℕ). AreAnswers FitsOther n qs) seen too.3 in
      let filled : reach_after r + made qs ≡ length (history_of other) = ap (λ n. n + made qs) (sym seen) ∙ there.1 in
      let more = same-records (reach_after r) rs qs one.1 rest are.3 behind room.1 roomy.1 at.1 filled in
      (ap (λ x. x ∷ rs) one.0 ∙ ap (λ xs. q ∷ xs) more.0, more.1)

-- the runs of sessions
no-calls : (rs : List FullRecord) → calls_in rs ≡ [] → rs ≡ []
no-calls [] none = refl
no-calls (r ∷ rs) none = absurd (cc)

module _ (sizes : Sizes) (commands : List (List Call)) (place : ℕ) (alone : IsAlone place commands) where
  calls-of : (runs : Runs) (log : List Entry) → IsOutcome sizes commands runs log → (n : ℕ) → calls_in (get_or runs n []) ≡ get_or commands n []
  calls-of runs log is n = sym (get_or-map calls_in runs n []) ∙ ap (λ cs. get_or cs n []) is.same_calls

  others-none : (runs : Runs) (log : List Entry) → IsOutcome sizes commands runs log → (n : ℕ) → n ≢ place → get_or runs n [] ≡ []
  others-none runs log is n apart = no-calls (get_or runs n []) (calls-of runs log is n ∙ alone n apart)

  none-changed : (runs : Runs) (log : List Entry) → IsOutcome sizes commands runs log → (other : ℕ) → other ≢ suc place → length (changes_of other (history_of log)) ≡ 0
  none-changed runs log is zero apart = ap length (is.run zero).changes
  none-changed runs log is (suc n) apart =
      ap length ((is.run (suc n)).changes ∙ ap (filter_map change_made) (others-none runs log is n (λ same. apart (ap suc same))))

  fills : (runs : Runs) (log : List Entry) → IsOutcome sizes commands runs log → 0 + made (get_or runs place []) ≡ length (history_of log)
  fills runs log is =
      let own = ap length (is.run (suc place)).changes in
      let all = all-own (history_of log) (suc place) (none-changed runs log is) in
      omega arith

  -- two outcomes are one
  pub one-outcome : (runs others : Runs) (log other : List Entry) → IsOutcome sizes commands runs log → IsOutcome sizes commands others other → AreNeverFull runs → AreNeverFull others
      → (runs ≡ others) × (history_of log ≡ history_of other) × (pages_after (by_place opening sizes.pages) log ≡ pages_after (by_place opening sizes.pages) other)
  one-outcome runs others log other is also room roomy =
      let start : SaySame sizes.pages [] [] = record { history = refl; pages_are = refl; bits_are = refl } in
      let own = same-records sizes log other (suc place) is.kept also.kept 0 (get_or runs place []) (get_or others place []) start (calls-of runs log is place ∙ sym (calls-of others other also place))
      (is.run (suc place)).answers (also.run (suc place)).answers (room_at runs place room) (room_at others place roomy) (fills runs log is) (fills others other also) in
      let wide : length runs ≡ length others = sym (length-map runs calls_in) ∙ (ap length (is.same_calls ∙ sym also.same_calls) ∙ length-map others calls_in) in (
        ext_get_or [] runs others wide (λ i lt. elim (cases_eq i place) [
          | inl same ↦ subst (λ (j : ℕ). get_or runs j [] ≡ get_or others j []) (sym same) own.0
          | inr apart ↦ others-none runs log is i apart ∙ sym (others-none others other also i apart)
        ]),
        own.1.history,
        own.1.pages_are,
      )
