-- What a removal makes of a chain, record by record, as its words are written: for what functions of this crate ask of each other, and for proofs.
use Rattle.std.specs.Prelude.{ℕ, zero, suc, ◌+◌, ◌-◌, List, [], ◌∷◌, ◌==◌, nat_le, drop, if◌then◌else◌}
use Rattle.ib_heap.specs.declared.form.TheConstants.{FEWEST_OWNED, ONE_TOO_FEW}
use Rattle.ib_heap.specs.Chain.{Node, Chain, first_of}
use Rattle.ib_heap.specs.ChainPut.{owned_by}

-- the first slot of these records owns one fewer
abbrev pub own_one_fewer : List Node → List Node
own_one_fewer [] = []
own_one_fewer (x ∷ xs) = if x.owned == 0 then x ∷ own_one_fewer xs else (let y : Node = record { offset = x.offset; owned = x.owned - 1 } in y) ∷ xs

abbrev pub last_one_fewer : List Node → ℕ → ℕ
last_one_fewer [] last = last - 1
last_one_fewer (x ∷ xs) last = if x.owned == 0 then last_one_fewer xs last else last

-- the first of these records is taken out behind `y`, which becomes the owner where that one was
abbrev pub hand_over : Node → List Node → List Node
hand_over y [] = y ∷ []
hand_over y (x ∷ xs) = if x.owned == 0 then y ∷ own_one_fewer xs else (let z : Node = record { offset = y.offset; owned = x.owned - 1 } in z) ∷ xs

abbrev pub hand_over_last : List Node → ℕ → ℕ
hand_over_last [] last = last
hand_over_last (x ∷ xs) last = if x.owned == 0 then last_one_fewer xs last else last

-- the chain without the record behind the first k
abbrev pub unlink_node : ℕ → List Node → List Node
unlink_node k [] = []
unlink_node zero (x ∷ xs) = own_one_fewer xs
unlink_node (suc zero) (x ∷ xs) = hand_over x xs
unlink_node (suc (suc k)) (x ∷ xs) = x ∷ unlink_node (suc k) xs

abbrev pub unlink_last : ℕ → List Node → ℕ → ℕ
unlink_last k [] last = last
unlink_last zero (x ∷ xs) last = last_one_fewer xs last
unlink_last (suc zero) (x ∷ xs) last = hand_over_last xs last
unlink_last (suc (suc k)) (x ∷ xs) last = unlink_last (suc k) xs last

-- the first slot of these records owns three more
abbrev pub own_three_more : List Node → List Node
own_three_more [] = []
own_three_more (x ∷ xs) = if x.owned == 0 then x ∷ own_three_more xs else (let y : Node = record { offset = x.offset; owned = x.owned + ONE_TOO_FEW } in y) ∷ xs

abbrev pub last_three_more : List Node → ℕ → ℕ
last_three_more [] last = last + ONE_TOO_FEW
last_three_more (x ∷ xs) last = if x.owned == 0 then last_three_more xs last else last

-- the first of these records owns the short slot before it, and its own slot one fewer
abbrev pub lend : List Node → List Node
lend [] = []
lend (x ∷ xs) = (let y : Node = record { offset = x.offset; owned = FEWEST_OWNED } in y) ∷ own_one_fewer xs

abbrev pub lend_last : List Node → ℕ → ℕ
lend_last [] last = last
lend_last (x ∷ xs) last = last_one_fewer xs last

-- a slot of three is filled by the slot behind it where that owns five, or joins it
abbrev pub balance : List Node → ℕ → List Node
balance [] last = []
balance (x ∷ xs) last = if x.owned == ONE_TOO_FEW then (let y : Node = record { offset = x.offset; owned = 0 } in y) ∷ (if nat_le (FEWEST_OWNED + 1) (owned_by xs last) then lend xs else own_three_more xs) else x ∷ balance xs last

abbrev pub balance_last : List Node → ℕ → ℕ
balance_last [] last = last
balance_last (x ∷ xs) last = if x.owned == ONE_TOO_FEW then (if nat_le (FEWEST_OWNED + 1) (owned_by xs last) then lend_last xs last else last_three_more xs last) else balance_last xs last

-- the chain without the record behind the first k, whose offset goes to the front of the free ones; its slot may own three
abbrev pub unlink_from_chain : ℕ → Chain → Chain
unlink_from_chain k h = record { nodes = unlink_node k h.nodes; last = unlink_last k h.nodes h.last; free = first_of (drop k h.nodes) ∷ h.free }

-- the same with its slots balanced
abbrev pub remove_from_chain : ℕ → Chain → Chain
remove_from_chain k h =
    let c = unlink_from_chain k h in
    record { nodes = balance c.nodes c.last; last = balance_last c.nodes c.last; free = c.free }
