-- What an insert makes of a chain, record by record, as its words are written: for what functions of this crate ask of each other, and for proofs.
use Rattle.std.specs.Prelude.{ℕ, zero, suc, ◌+◌, ◌-◌, ◌*◌, List, [], ◌∷◌, ◌==◌, length, take, drop, nat_le, if◌then◌else◌}
use Rattle.ib_heap.specs.declared.form.TheConstants.{SUPREMUM, FIRST_OFFSET, RECORD_WORDS, MOST_OWNED, FEWEST_OWNED}
use Rattle.ib_heap.specs.Chain.{Node, Chain, owners, up_to}

-- how many records the first slot of these owns, or the supremum's where they have none
abbrev pub owned_by : List Node → ℕ → ℕ
owned_by [] last = last
owned_by (x ∷ xs) last = if x.owned == 0 then owned_by xs last else x.owned

-- the record that owns the first slot of these, or the supremum
abbrev pub owner_from : List Node → ℕ
owner_from [] = SUPREMUM
owner_from (x ∷ xs) = if x.owned == 0 then owner_from xs else x.offset

-- the first slot of these records owns one more
abbrev pub own_one_more : List Node → List Node
own_one_more [] = []
own_one_more (x ∷ xs) = if x.owned == 0 then x ∷ own_one_more xs else (let y : Node = record { offset = x.offset; owned = x.owned + 1 } in y) ∷ xs

-- the same of the supremum's slot, where it is the first
abbrev pub last_one_more : List Node → ℕ → ℕ
last_one_more [] last = last + 1
last_one_more (x ∷ xs) last = if x.owned == 0 then last_one_more xs last else last

-- a record put in behind the first k, with no slot of its own
abbrev pub put_node : ℕ → ℕ → List Node → List Node
put_node zero p xs = (let y : Node = record { offset = p; owned = 0 } in y) ∷ own_one_more xs
put_node (suc k) p [] = []
put_node (suc k) p (x ∷ xs) = x ∷ put_node k p xs

abbrev pub put_last : ℕ → List Node → ℕ → ℕ
put_last zero xs last = last_one_more xs last
put_last (suc k) [] last = last
put_last (suc k) (x ∷ xs) last = put_last k xs last

-- the first slot of these records owns four fewer
abbrev pub own_four_fewer : List Node → List Node
own_four_fewer [] = []
own_four_fewer (x ∷ xs) = if x.owned == 0 then x ∷ own_four_fewer xs else (let y : Node = record { offset = x.offset; owned = x.owned - FEWEST_OWNED } in y) ∷ xs

abbrev pub last_four_fewer : List Node → ℕ → ℕ
last_four_fewer [] last = last - FEWEST_OWNED
last_four_fewer (x ∷ xs) last = if x.owned == 0 then last_four_fewer xs last else last

-- the record behind the first t has a slot of four, which the slot behind it gives up
abbrev pub give_slot : ℕ → List Node → List Node
give_slot t [] = []
give_slot zero (x ∷ xs) = (let y : Node = record { offset = x.offset; owned = FEWEST_OWNED } in y) ∷ own_four_fewer xs
give_slot (suc t) (x ∷ xs) = x ∷ give_slot t xs

abbrev pub give_slot_last : ℕ → List Node → ℕ → ℕ
give_slot_last t [] last = last
give_slot_last zero (x ∷ xs) last = last_four_fewer xs last
give_slot_last (suc t) (x ∷ xs) last = give_slot_last t xs last

-- the offset that a new record takes: the first free one, or where there is none the one at the top
abbrev pub chain_offset : Chain → ℕ
chain_offset h = elim h.free as (λ ps. ℕ) [ [] ↦ FIRST_OFFSET + RECORD_WORDS * (length h.nodes + length h.free) | ◌∷◌ p (ps → r) ↦ p ]

-- the free offsets but for the first
abbrev pub rest_of : List ℕ → List ℕ
rest_of [] = []
rest_of (p ∷ ps) = ps

-- the chain with a record put in behind the first k: it takes the offset for a new record, and a slot of nine is split behind its fourth record
abbrev pub put_in_chain : ℕ → Chain → Chain
put_in_chain k h =
    let p = chain_offset h in
    let ns = put_node k p h.nodes in
    let l = put_last k h.nodes h.last in
    if nat_le (owned_by (drop k ns) l) MOST_OWNED then record { nodes = ns; last = l; free = rest_of h.free }
    else record { nodes = give_slot (up_to (length (owners (take k h.nodes)) - 1) ns + (FEWEST_OWNED - 1)) ns; last = give_slot_last (up_to (length (owners (take k h.nodes)) - 1) ns + (FEWEST_OWNED - 1)) ns l; free = rest_of h.free }
