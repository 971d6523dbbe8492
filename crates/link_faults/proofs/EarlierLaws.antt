-- Laws of the order of faults: the first of several is the same however they are grouped and ordered.
use Rattle.std.proofs.Common.{◌≡◌, ℕ, ◌+◌, ◌*◌, ◌<◌, ◌≤◌, ◌==◌, ◌&&◌, ◌||◌, nat_lt, Bool, true, false, cond}
use Rattle.std.proofs.Common.{Some, None, Option, List, [], ◌∷◌, ◌++◌, refl, sym, ◌∙◌, ap, arith, ◌-◌, ◌⊎◌, inl, inr, length, take, get_or}
use Rattle.std.specs.List.{flat_map}
use Rattle.std.proofs.lemmas.Bool.{cases_lt}
use Rattle.std.proofs.lemmas.List.{take_more}
use Rattle.hh_base.specs.declared.value.Pos.{Pos}
use Rattle.link_faults.specs.declared.fault.LinkKind.{LinkKind}
use Rattle.link_faults.specs.declared.fault.LinkKind.TheVariants as fault
use Rattle.link_faults.specs.declared.fault.LinkFault.{LinkFault}
use Rattle.link_faults.specs.Faults.{rank_of, is_before, earlier}
use Rattle.link_faults.specs.Earliest.{first_at, first_by}

rank_below : (k : LinkKind) → rank_of k < 9
rank_below fault.TwiceDeclared = omega arith
rank_below fault.UnknownSignal = omega arith
rank_below fault.UnknownModule = omega arith
rank_below fault.UnknownTrap = omega arith
rank_below fault.UnknownBody = omega arith
rank_below fault.KindWrong = omega arith
rank_below fault.EmitsInput = omega arith
rank_below fault.BadBinding = omega arith
rank_below fault.RunCycle = omega arith

abbrev key : LinkFault → ℕ
key f = f.pos.0 * 9 + rank_of f.kind

-- by position and then by kind is by one number
by_key : (a b : LinkFault) → is_before a b ≡ nat_lt (key a) (key b)
by_key a b = numbers a.pos.0 (rank_of a.kind) b.pos.0 (rank_of b.kind) (rank_below a.kind) (rank_below b.kind)
  where
    numbers : (p j q k : ℕ) → j < 9 → k < 9
        → (nat_lt p q || ((p == q) && nat_lt j k)) ≡ nat_lt (p * 9 + j) (q * 9 + k)
    numbers p j q k jl kl = grind arith

-- the kind of a rank
abbrev kind_at : List LinkKind → ℕ → LinkKind
kind_at [] n = fault.RunCycle
kind_at (k ∷ ks) n = cond (n == 0) k (kind_at ks (n - 1))

abbrev kinds : List LinkKind
kinds = fault.TwiceDeclared ∷ fault.UnknownSignal ∷ fault.UnknownModule ∷ fault.UnknownTrap
    ∷ fault.UnknownBody ∷ fault.KindWrong ∷ fault.EmitsInput ∷ fault.BadBinding ∷ []

kind_at_rank : (k : LinkKind) → kind_at kinds (rank_of k) ≡ k
kind_at_rank fault.TwiceDeclared = refl
kind_at_rank fault.UnknownSignal = refl
kind_at_rank fault.UnknownModule = refl
kind_at_rank fault.UnknownTrap = refl
kind_at_rank fault.UnknownBody = refl
kind_at_rank fault.KindWrong = refl
kind_at_rank fault.EmitsInput = refl
kind_at_rank fault.BadBinding = refl
kind_at_rank fault.RunCycle = refl

same_key : (a b : LinkFault) → key a ≡ key b → a ≡ b
same_key a b e =
    let j = rank_below a.kind in
    let k = rank_below b.kind in
    let pos : a.pos.0 ≡ b.pos.0 = omega arith in
    let rank : rank_of a.kind ≡ rank_of b.kind = omega arith in
    let kind : a.kind ≡ b.kind = sym (kind_at_rank a.kind) ∙ ap (kind_at kinds) rank ∙ kind_at_rank b.kind in
    ap (λ n. record { pos = record { 0 = n }; kind = a.kind }) pos
    ∙ ap (λ k. record { pos = b.pos; kind = k }) kind

pub earlier_none : (a : Option LinkFault) → earlier a None ≡ a
earlier_none None = refl
earlier_none (Some a) = refl

abbrev pick : LinkFault → LinkFault → LinkFault
pick a b = cond (is_before b a) b a

not_below : (m n : ℕ) → n ≤ m → nat_lt m n ≡ false
not_below m n le = grind arith

at_most : (m n : ℕ) → nat_lt m n ≡ false → n ≤ m
at_most m n e = grind arith

below : (m n : ℕ) → nat_lt m n ≡ true → m < n
below m n e = grind arith

pick_left : (a b : LinkFault) → key a ≤ key b → pick a b ≡ a
pick_left a b le = ap (λ t. cond t b a) (by_key b a ∙ not_below (key b) (key a) le)

pick_right : (a b : LinkFault) → key b ≤ key a → pick a b ≡ b
pick_right a b le = by (is_before b a) refl
  where
    by : (t : Bool) → is_before b a ≡ t → cond t b a ≡ b
    by true is = refl
    by false is =
        let above = at_most (key b) (key a) (sym (by_key b a) ∙ is) in
        same_key a b (omega arith)

pub before_itself : (a : LinkFault) → is_before a a ≡ false
before_itself a = by_key a a ∙ not_below (key a) (key a) (omega arith)

-- what is not before the second of two is not before the first, where that is the earlier one
pub not_before_first : (g a b : LinkFault) → is_before b a ≡ false → is_before g b ≡ false
    → is_before g a ≡ false
not_before_first g a b ba gb =
    let ab = at_most (key b) (key a) (sym (by_key b a) ∙ ba) in
    let bg = at_most (key g) (key b) (sym (by_key g b) ∙ gb) in
    by_key g a ∙ not_below (key g) (key a) (omega arith)

pub not_before_second : (g a b : LinkFault) → is_before b a ≡ true → is_before g a ≡ false
    → is_before g b ≡ false
not_before_second g a b ba ga =
    let less = below (key b) (key a) (sym (by_key b a) ∙ ba) in
    let ag = at_most (key g) (key a) (sym (by_key g a) ∙ ga) in
    by_key g b ∙ not_below (key g) (key b) (omega arith)

-- the one with the least number, the first of two with one number
pick_turned : (a b : LinkFault) → pick a b ≡ pick b a
pick_turned a b = by (cases_lt (key b) (key a))
  where
    by : (key b < key a) ⊎ (key a ≤ key b) → pick a b ≡ pick b a
    by (inr le) = pick_left a b le ∙ sym (pick_right b a le)
    by (inl gt) = pick_right a b (omega arith) ∙ sym (pick_left b a (omega arith))

pick_grouped : (a b c : LinkFault) → pick (pick a b) c ≡ pick a (pick b c)
pick_grouped a b c = by (cases_lt (key b) (key a)) (cases_lt (key c) (key b))
  where
    by : (key b < key a) ⊎ (key a ≤ key b) → (key c < key b) ⊎ (key b ≤ key c)
        → pick (pick a b) c ≡ pick a (pick b c)
    by (inr ab) (inr bc) = ap (λ x. pick x c) (pick_left a b ab) ∙ pick_left a c (omega arith)
        ∙ sym (pick_left a b ab) ∙ ap (pick a) (sym (pick_left b c bc))
    by (inr ab) (inl cb) = ap (λ x. pick x c) (pick_left a b ab)
        ∙ ap (pick a) (sym (pick_right b c (omega arith)))
    by (inl ba) (inr bc) = ap (λ x. pick x c) (pick_right a b (omega arith))
        ∙ pick_left b c bc ∙ sym (pick_right a b (omega arith)) ∙ ap (pick a) (sym (pick_left b c bc))
    by (inl ba) (inl cb) = ap (λ x. pick x c) (pick_right a b (omega arith))
        ∙ pick_right b c (omega arith) ∙ sym (pick_right a c (omega arith))
        ∙ ap (pick a) (sym (pick_right b c (omega arith)))

pub earlier_turned : (a b : Option LinkFault) → earlier a b ≡ earlier b a
earlier_turned None b = sym (earlier_none b)
earlier_turned (Some a) None = refl
earlier_turned (Some a) (Some b) = ap (λ x. Some x) (pick_turned a b)

pub earlier_grouped : (a b c : Option LinkFault) → earlier (earlier a b) c ≡ earlier a (earlier b c)
earlier_grouped None b c = refl
earlier_grouped (Some a) None c = refl
earlier_grouped (Some a) (Some b) None = refl
earlier_grouped (Some a) (Some b) (Some c) = ap (λ x. Some x) (pick_grouped a b c)

-- two pairs, one beside the other
pub earlier_paired : (a b c d : Option LinkFault)
    → earlier (earlier a b) (earlier c d) ≡ earlier (earlier a c) (earlier b d)
earlier_paired a b c d = earlier_grouped a b (earlier c d)
    ∙ ap (earlier a) (sym (earlier_grouped b c d) ∙ ap (λ x. earlier x d) (earlier_turned b c)
    ∙ earlier_grouped c b d) ∙ sym (earlier_grouped a c (earlier b d))

pub first_at_joined : (k : LinkKind) (ps qs : List Pos)
    → first_at k (ps ++ qs) ≡ earlier (first_at k ps) (first_at k qs)
first_at_joined k [] qs = refl
first_at_joined k (p ∷ ps) qs = ap (earlier (Some (record { pos = p; kind = k }))) (first_at_joined k ps qs)
    ∙ sym (earlier_grouped (Some (record { pos = p; kind = k })) (first_at k ps) (first_at k qs))

pub first_by_joined : {A : Type 0} (f : A → Option LinkFault) (xs ys : List A)
    → first_by f (xs ++ ys) ≡ earlier (first_by f xs) (first_by f ys)
first_by_joined f [] ys = refl
first_by_joined f (x ∷ xs) ys = ap (earlier (f x)) (first_by_joined f xs ys)
    ∙ sym (earlier_grouped (f x) (first_by f xs) (first_by f ys))

pub first_by_none : {A : Type 0} (xs : List A) → first_by (λ x. None) xs ≡ None
first_by_none [] = refl
first_by_none (x ∷ xs) = first_by_none xs

-- the first of two faults of each item
pub first_by_both : {A : Type 0} (f g : A → Option LinkFault) (xs : List A)
    → first_by (λ x. earlier (f x) (g x)) xs ≡ earlier (first_by f xs) (first_by g xs)
first_by_both f g [] = refl
first_by_both f g (x ∷ xs) = ap (earlier (earlier (f x) (g x))) (first_by_both f g xs)
    ∙ earlier_paired (f x) (g x) (first_by f xs) (first_by g xs)

pub first_at_each : {A : Type 0} (k : LinkKind) (f : A → List Pos) (xs : List A)
    → first_at k (flat_map f xs) ≡ first_by (λ x. first_at k (f x)) xs
first_at_each k f [] = refl
first_at_each k f (x ∷ xs) = first_at_joined k (f x) (flat_map f xs)
    ∙ ap (earlier (first_at k (f x))) (first_at_each k f xs)

-- one item more
pub first_by_more : {A : Type 0} (f : A → Option LinkFault) (xs : List A) (i : ℕ) (d : A) → i < length xs
    → first_by f (take (i + 1) xs) ≡ earlier (first_by f (take i xs)) (f (get_or xs i d))
first_by_more f xs i d within = ap (first_by f) (take_more xs i d within)
    ∙ first_by_joined f (take i xs) (get_or xs i d ∷ [])
    ∙ ap (earlier (first_by f (take i xs))) (earlier_none (f (get_or xs i d)))

-- the step of a loop that goes over the items
pub first_by_step : {A : Type 0} (f : A → Option LinkFault) (xs : List A) (i : ℕ) (x : A)
    (old new one : Option LinkFault) → i < length xs → x ≡ get_or xs i x → old ≡ first_by f (take i xs)
    → one ≡ f x → new ≡ earlier old one → new ≡ first_by f (take (i + 1) xs)
first_by_step f xs i x old new one within at before is e = e ∙ ap (λ o. earlier o one) before
    ∙ ap (earlier (first_by f (take i xs))) (is ∙ ap f at) ∙ sym (first_by_more f xs i x within)
