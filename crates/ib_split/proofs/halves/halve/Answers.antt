-- The record goes into the half to which it belongs.
use Rattle.std.proofs.Common.{◌≡◌, ◌∙◌, ◌<◌, ◌+◌, ◌-◌, length, take, drop, None, ap, sym, arith, length-take, length-drop}
use Rattle.ib_map.specs.Pairs.{Pairs, put, value_at}
use Rattle.ib_heap.specs.declared.TheConstants.{MOST_RECORDS}
use Rattle.ib_heap.specs.Filled.{filled}
use Rattle.ib_page.specs.Form.{page_of}
use Rattle.ib_page.specs.Page.{page_in}
use Rattle.ib_page.specs.Image.{records_of, value_with_records}
use Rattle.ib_plans.specs.declared.TheConstants.{LEFT_RECORDS}
use Rattle.ib_plans.specs.Split.{left_part, right_part}
use Rattle.ib_split.proofs.HalfLaws.{take-put_low, drop-put_low, take-put_high, drop-put_high, OnOk-put, value_at-take, value_at-drop, records-with_records, put-twice}
use Rattle.ib_split.proofs.halves.halve.Goals as goal

pub returns-then-place_in-lt-LEFT_RECORDS-clause-left : goal.returns-then-place_in-lt-LEFT_RECORDS-clause-left
returns-then-place_in-lt-LEFT_RECORDS-clause-left c =
    let rs = records_of c.args.left.now in
    let mid : records_of c.cut.new.self ≡ take (LEFT_RECORDS - 1) (records_of c.args.left.now) = ap (λ q. (page_in q).records) c.cut.ensures.left ∙ records-with_records (page_of c.args.left.now) (take (LEFT_RECORDS - 1) (records_of c.args.left.now)) c.requires.tree in
    let none : value_at c.args.key (records_of c.cut.new.self) ≡ None = ap (value_at c.args.key) mid ∙ value_at-take c.args.key (LEFT_RECORDS - 1) (records_of c.args.left.now) c.requires.absent in
    let few : length (records_of c.cut.new.self) < MOST_RECORDS = let l = ap length mid in let t = length-take (LEFT_RECORDS - 1) (records_of c.args.left.now) in omega arith in
    let put_in = OnOk-put c.insert_anew.result _ c.args.key (records_of c.cut.new.self) c.insert_anew.ensures.inserted c.insert_anew.ensures.duplicate c.insert_anew.ensures.full c.insert_anew.ensures.never_missing none few in
    put-twice c.args.key c.args.value (page_of c.args.left.now) (page_of c.cut.new.self) (page_of c.insert_anew.new.image) (take (LEFT_RECORDS - 1) (records_of c.args.left.now)) (left_part (put c.args.key c.args.value (records_of c.args.left.now))) c.requires.tree c.cut.ensures.left put_in
    (take-put_low c.args.key c.args.value (LEFT_RECORDS - 1) (records_of c.args.left.now) (let e = c.place_in.ensures in let l = c.if-place_in-lt-LEFT_RECORDS.true in omega arith))

pub returns-then-place_in-lt-LEFT_RECORDS-clause-right : goal.returns-then-place_in-lt-LEFT_RECORDS-clause-right
returns-then-place_in-lt-LEFT_RECORDS-clause-right c =
    c.cut.ensures.right ∙ ap (λ (rs : Pairs). value_with_records rs (page_of c.args.right.now)) (sym (drop-put_low c.args.key c.args.value (LEFT_RECORDS - 1) (records_of c.args.left.now) (let e = c.place_in.ensures in let l = c.if-place_in-lt-LEFT_RECORDS.true in omega arith)))

pub returns-else-place_in-lt-LEFT_RECORDS-clause-left : goal.returns-else-place_in-lt-LEFT_RECORDS-clause-left
returns-else-place_in-lt-LEFT_RECORDS-clause-left c =
    c.cut-else-place_in-lt-LEFT_RECORDS.ensures.left ∙ ap (λ (rs : Pairs). value_with_records rs (page_of c.args.left.now)) (sym (take-put_high c.args.key c.args.value LEFT_RECORDS (records_of c.args.left.now) (let e = c.place_in.ensures in let l = c.if-place_in-lt-LEFT_RECORDS.false in omega arith)))

pub returns-else-place_in-lt-LEFT_RECORDS-clause-right : goal.returns-else-place_in-lt-LEFT_RECORDS-clause-right
returns-else-place_in-lt-LEFT_RECORDS-clause-right c =
    let cut = c.cut-else-place_in-lt-LEFT_RECORDS in
    let insert = c.insert_anew-else-place_in-lt-LEFT_RECORDS in
    let mid : records_of cut.new.right ≡ drop LEFT_RECORDS (records_of c.args.left.now) = ap (λ q. (page_in q).records) cut.ensures.right ∙ records-with_records (page_of c.args.right.now) (drop LEFT_RECORDS (records_of c.args.left.now)) c.requires.right_tree in
    let none : value_at c.args.key (records_of cut.new.right) ≡ None = ap (value_at c.args.key) mid ∙ value_at-drop c.args.key LEFT_RECORDS (records_of c.args.left.now) c.requires.absent in
    let few : length (records_of cut.new.right) < MOST_RECORDS = let l = ap length mid in let t = length-drop LEFT_RECORDS (records_of c.args.left.now) in let f = c.requires.full in omega arith in
    let put_in = OnOk-put insert.result _ c.args.key (records_of cut.new.right) insert.ensures.inserted insert.ensures.duplicate insert.ensures.full insert.ensures.never_missing none few in
    put-twice c.args.key c.args.value (page_of c.args.right.now) (page_of cut.new.right) (page_of insert.new.image) (drop LEFT_RECORDS (records_of c.args.left.now)) (right_part (put c.args.key c.args.value (records_of c.args.left.now))) c.requires.right_tree cut.ensures.right put_in
    (drop-put_high c.args.key c.args.value LEFT_RECORDS (records_of c.args.left.now) (let e = c.place_in.ensures in let l = c.if-place_in-lt-LEFT_RECORDS.false in omega arith))

pub returns-then-place_in-lt-LEFT_RECORDS-clause-left_heap : goal.returns-then-place_in-lt-LEFT_RECORDS-clause-left_heap
returns-then-place_in-lt-LEFT_RECORDS-clause-left_heap c =
    let mid : records_of c.cut.new.self ≡ take (LEFT_RECORDS - 1) (records_of c.args.left.now) = ap (λ q. (page_in q).records) c.cut.ensures.left ∙ records-with_records (page_of c.args.left.now) (take (LEFT_RECORDS - 1) (records_of c.args.left.now)) c.requires.tree in
    let none : value_at c.args.key (records_of c.cut.new.self) ≡ None = ap (value_at c.args.key) mid ∙ value_at-take c.args.key (LEFT_RECORDS - 1) (records_of c.args.left.now) c.requires.absent in
    let few : length (records_of c.cut.new.self) + 1 ≡ LEFT_RECORDS = let l = ap length mid in let t = length-take (LEFT_RECORDS - 1) (records_of c.args.left.now) in let f = c.requires.full in omega arith in
    OnOk-put c.insert_anew.result _ c.args.key (records_of c.cut.new.self) c.insert_anew.ensures.heap c.insert_anew.ensures.duplicate c.insert_anew.ensures.full c.insert_anew.ensures.never_missing none (omega arith) ∙ ap filled few

pub returns-then-place_in-lt-LEFT_RECORDS-clause-right_heap : goal.returns-then-place_in-lt-LEFT_RECORDS-clause-right_heap
returns-then-place_in-lt-LEFT_RECORDS-clause-right_heap c = c.cut.ensures.right_heap ∙ ap filled (let f = c.requires.full in omega arith)

pub returns-else-place_in-lt-LEFT_RECORDS-clause-right_heap : goal.returns-else-place_in-lt-LEFT_RECORDS-clause-right_heap
returns-else-place_in-lt-LEFT_RECORDS-clause-right_heap c =
    let cut = c.cut-else-place_in-lt-LEFT_RECORDS in
    let insert = c.insert_anew-else-place_in-lt-LEFT_RECORDS in
    let mid : records_of cut.new.right ≡ drop LEFT_RECORDS (records_of c.args.left.now) = ap (λ q. (page_in q).records) cut.ensures.right ∙ records-with_records (page_of c.args.right.now) (drop LEFT_RECORDS (records_of c.args.left.now)) c.requires.right_tree in
    let none : value_at c.args.key (records_of cut.new.right) ≡ None = ap (value_at c.args.key) mid ∙ value_at-drop c.args.key LEFT_RECORDS (records_of c.args.left.now) c.requires.absent in
    let few : length (records_of cut.new.right) + 1 ≡ MOST_RECORDS + 1 - LEFT_RECORDS = let l = ap length mid in let t = length-drop LEFT_RECORDS (records_of c.args.left.now) in let f = c.requires.full in omega arith in
    OnOk-put insert.result _ c.args.key (records_of cut.new.right) insert.ensures.heap insert.ensures.duplicate insert.ensures.full insert.ensures.never_missing none (omega arith) ∙ ap filled few
