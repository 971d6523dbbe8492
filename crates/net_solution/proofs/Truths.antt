-- Truth values and the order of information.
use Rattle.std.proofs.Common.{◌≡◌, refl, sym, ap, ◌∙◌, ℕ, Bool, true, false, cond, ◌&&◌, ◌||◌, List, [], ◌∷◌}
use Rattle.std.specs.List.{list_any, list_all}
use Rattle.hh_base.specs.declared.value.Tri.{Tri}
use Rattle.hh_base.specs.declared.value.Tri.TheVariants.{Unknown, Zero, One}
use Rattle.host_expr.specs.declared.cell.Cell.{Cell}
use Rattle.host_expr.specs.declared.cell.Cell.TheVariants as cell
use Rattle.host_expr.specs.Environment.{is_decided, is_known, is_present}
use Rattle.host_expr.specs.Knows.{TriBelow, CellBelow}
use Rattle.net_solution.specs.Equations.{is_absent, opposite}

pub tri_is : (x y : Tri) → y ≡ x → TriBelow x y
tri_is Unknown y e = tt
tri_is Zero y e = e
tri_is One y e = e

pub cell_is : (c d : Cell) → d ≡ c → CellBelow c d
cell_is cell.Unknown d e = tt
cell_is (cell.Known v) d e = e
cell_is (cell.Faulted p k) d e = e

pub decided_same : (x y : Tri) → TriBelow x y → is_decided x ≡ true → y ≡ x
decided_same Unknown y h e = cc
decided_same Zero y h e = h
decided_same One y h e = h

pub known_same : (c d : Cell) → CellBelow c d → is_known c ≡ true → d ≡ c
known_same cell.Unknown d h e = cc
known_same (cell.Known v) d h e = h
known_same (cell.Faulted p k) d h e = h

pub tri_trans : (x y z : Tri) → TriBelow x y → TriBelow y z → TriBelow x z
tri_trans Unknown y z h k = tt
tri_trans Zero y z h k = decided_same y z k (ap is_decided h) ∙ h
tri_trans One y z h k = decided_same y z k (ap is_decided h) ∙ h

pub cell_trans : (x y z : Cell) → CellBelow x y → CellBelow y z → CellBelow x z
cell_trans cell.Unknown y z h k = tt
cell_trans (cell.Known v) y z h k = known_same y z k (ap is_known h) ∙ h
cell_trans (cell.Faulted p f) y z h k = known_same y z k (ap is_known h) ∙ h

pub tri_antisym : (x y : Tri) → TriBelow x y → TriBelow y x → x ≡ y
tri_antisym Unknown Unknown h k = refl
tri_antisym Unknown Zero h k = k
tri_antisym Unknown One h k = k
tri_antisym Zero y h k = sym h
tri_antisym One y h k = sym h

pub cell_antisym : (x y : Cell) → CellBelow x y → CellBelow y x → x ≡ y
cell_antisym cell.Unknown cell.Unknown h k = refl
cell_antisym cell.Unknown (cell.Known v) h k = k
cell_antisym cell.Unknown (cell.Faulted p f) h k = k
cell_antisym (cell.Known v) y h k = sym h
cell_antisym (cell.Faulted p f) y h k = sym h

pub and_left : (a b : Bool) → (a && b) ≡ true → a ≡ true
and_left true b h = refl
and_left false b h = h

pub and_right : (a b : Bool) → (a && b) ≡ true → b ≡ true
and_right true b h = h
and_right false b h = cc

pub and_both : (a b : Bool) → a ≡ true → b ≡ true → (a && b) ≡ true
and_both a b p q = ap (λ x. x && b) p ∙ q

pub or_true : (a b : Bool) → b ≡ true → (a || b) ≡ true
or_true true b h = refl
or_true false b h = h

pub or_up : (a b c d : Bool) → (a ≡ true → c ≡ true) → (b ≡ true → d ≡ true) → (a || b) ≡ true → (c || d) ≡
    true
or_up true b c d f g h = ap (λ x. x || d) (f refl)
or_up false b c d f g h = or_true c d (g h)

pub any_from : (p q : ℕ → Bool) → ((n : ℕ) → p n ≡ true → q n ≡ true) → (ns : List ℕ)
    → list_any p ns ≡ true → list_any q ns ≡ true
any_from p q f [] h = h
any_from p q f (n ∷ ns) h = or_up (p n) (list_any p ns) (q n) (list_any q ns) (f n) (any_from p q f ns) h

pub all_from : (p q : ℕ → Bool) → ((n : ℕ) → p n ≡ true → q n ≡ true) → (ns : List ℕ)
    → list_all p ns ≡ true → list_all q ns ≡ true
all_from p q f [] h = h
all_from p q f (n ∷ ns) h =
    and_both (q n) (list_all q ns) (f n (and_left (p n) (list_all p ns) h))
    (all_from p q f ns (and_right (p n) (list_all p ns) h))

or_false : (a b : Bool) → a ≡ false → b ≡ false → (a || b) ≡ false
or_false a b p q = ap (λ x. x || b) p ∙ q

pub none_from : (p q : ℕ → Bool) → ((n : ℕ) → p n ≡ true → q n ≡ false) → (ns : List ℕ)
    → list_all p ns ≡ true → list_any q ns ≡ false
none_from p q f [] h = refl
none_from p q f (n ∷ ns) h =
    or_false (q n) (list_any q ns) (f n (and_left (p n) (list_all p ns) h))
    (none_from p q f ns (and_right (p n) (list_all p ns) h))

pub absent_up : (x y : Tri) → TriBelow x y → is_absent x ≡ true → is_absent y ≡ true
absent_up Unknown y h e = cc
absent_up Zero y h e = ap is_absent h
absent_up One y h e = cc

pub present_up : (x y : Tri) → TriBelow x y → is_present x ≡ true → is_present y ≡ true
present_up Unknown y h e = cc
present_up Zero y h e = cc
present_up One y h e = ap is_present h

pub present_not_absent : (x y : Tri) → TriBelow x y → is_present x ≡ true → is_absent y ≡ false
present_not_absent Unknown y h e = cc
present_not_absent Zero y h e = cc
present_not_absent One y h e = ap is_absent h

pub absent_not_present : (x y : Tri) → TriBelow x y → is_absent x ≡ true → is_present y ≡ false
absent_not_present Unknown y h e = cc
absent_not_present Zero y h e = ap is_present h
absent_not_present One y h e = cc

pub opposite_up : (x y : Tri) → TriBelow x y → TriBelow (opposite x) (opposite y)
opposite_up Unknown y h = tt
opposite_up Zero y h = ap opposite h
opposite_up One y h = ap opposite h

-- of a gate that is x where the one holds, and else y where the other does
pub picked_up : (x y : Tri) (a c b d : Bool) → (a ≡ true → c ≡ true) → (b ≡ true → d ≡ true)
    → (b ≡ true → c ≡ false)
    → TriBelow (cond a x (cond b y Unknown)) (cond c x (cond d y Unknown))
picked_up x y true c b d f g h = tri_is x (cond c x (cond d y Unknown))
    (ap (λ z. cond z x (cond d y Unknown)) (f refl))
picked_up x y false c true d f g h =
    tri_is y (cond c x (cond d y Unknown)) (λ i. cond (h refl i) x (cond (g refl i) y Unknown))
picked_up x y false c false d f g h = tt

-- of what is unknown unless both hold
pub guarded_up : (a b c d : Bool) (x y : Cell) → (a ≡ true → b ≡ true → (c ≡ true) × (d ≡ true) × (x ≡ y))
    → CellBelow (cond a (cond b x cell.Unknown) cell.Unknown) (cond c (cond d y cell.Unknown) cell.Unknown)
guarded_up false b c d x y f = tt
guarded_up true false c d x y f = tt
guarded_up true true c d x y f =
    let h = f refl refl in
    cell_is x (cond c (cond d y cell.Unknown) cell.Unknown)
    ((λ i. cond (h.0 i) (cond (h.1 i) y cell.Unknown) cell.Unknown) ∙ sym h.2)
