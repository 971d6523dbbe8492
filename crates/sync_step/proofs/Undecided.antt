-- The undecided signals of the interface, one after the other.
use Rattle.std.proofs.Common.{◌≡◌, refl, sym, ap, ◌∙◌, subst, ℕ, zero, suc, ◌+◌, ◌<◌, ◌≤◌, Bool, true, false, cond}
use Rattle.std.proofs.Common.{◌&&◌, List, [], ◌∷◌, ◌++◌, length, take, get_or, arith, append-nil}
use Rattle.std.proofs.lemmas.List.{take_more, take_all, length-take-le}
use Rattle.hh_base.specs.declared.value.Value.{Value}
use Rattle.hh_base.specs.declared.value.Value.TheVariants as value
use Rattle.host_expr.specs.declared.cell.SigCell.{SigCell}
use Rattle.host_expr.specs.Environment.{Env, env_of, is_decided, is_known}
use Rattle.hh_term.specs.Reaction.{Last, Outer, outers_from, undecided}
use Rattle.sync_step.proofs.Left.{outer_at}

pub env_at : (cells : List SigCell) (s : ℕ) (c : SigCell) → s < length cells → c ≡ get_or cells s c → env_of cells s ≡ c
env_at [] s c lt e = absurd (omega arith)
env_at (x ∷ cells) zero c lt e = sym e
env_at (x ∷ cells) (suc s) c lt e = env_at cells s c (omega arith) e

abbrev pub is_settled : Env → ℕ → Bool
is_settled E s = is_decided (E s).status && is_known (E s).value

-- whatever is given, and whatever was last
abbrev pub UndecidedTo : Env → ℕ → ℕ → List ℕ → Type 0
UndecidedTo E count n us =
    (is : List (ℕ × Value)) (ls : List Last) → length ls ≡ count → us ≡ undecided E (outers_from 0 is (take n ls))

both : (E : Env) (os us : List Outer) → undecided E (os ++ us) ≡ undecided E os ++ undecided E us
both E [] us = refl
both E (o ∷ os) us = at_test (is_settled E o.signal) (both E os us)
  where
    at_test : (b : Bool) → undecided E (os ++ us) ≡ undecided E os ++ undecided E us → cond b (undecided E (os ++ us))
        (o.signal ∷ undecided E (os ++ us)) ≡ cond b (undecided E os) (o.signal ∷ undecided E os) ++ undecided E us
    at_test true e = e
    at_test false e = ap (λ z. o.signal ∷ z) e

outers_end : (k : ℕ) (is : List (ℕ × Value)) (ls : List Last) (l : Last) → outers_from k is (ls ++ l ∷ [])
    ≡ outers_from k is ls ++ outer_at (k + length ls) is l ∷ []
outers_end k is [] l = ap (λ m. outer_at m is l ∷ []) (let e : k ≡ k + 0 = omega arith in e)
outers_end k is (x ∷ ls) l =
    ap (λ z. outer_at k is x ∷ z)
    (outers_end (suc k) is ls l
    ∙ ap (λ m. outers_from (suc k) is ls ++ outer_at m is l ∷ []) (let e : suc k + length ls ≡ k + suc (length ls) = omega arith in e))

abbrev no_last : Last
no_last = record { status = false; val = value.Unit }

one : Env → ℕ → List ℕ
one E n = cond (is_settled E n) [] (n ∷ [])

ends_with : (E : Env) (n : ℕ) (us vs : List ℕ) (b : Bool) → is_settled E n ≡ b → vs ≡ us ++ cond b [] (n ∷ []) → vs
    ≡ us ++ one E n
unfolding one
ends_with E n us vs b e h = h ∙ ap (λ x. us ++ cond x [] (n ∷ [])) (sym e)

one_more : (E : Env) (count n : ℕ) (us vs : List ℕ) → n < count → UndecidedTo E count n us → vs ≡ us ++ one E n →
    UndecidedTo E count (n + 1) vs
unfolding one
one_more E count n us vs lt h e is ls many =
    let inside : n < length ls = subst (λ m. n < m) (sym many) lt in
    let last : Last = get_or ls n no_last in
    let here : length (take n ls) ≡ n = length-take-le n ls (omega (arith, inside)) in
    e ∙ ap (λ z. z ++ one E n) (h is ls many)
    ∙ ap (λ m. undecided E (outers_from 0 is (take n ls)) ++ undecided E (outer_at m is last ∷ []))
    (let q : n ≡ 0 + length (take n ls) = omega (arith, here) in q)
    ∙ sym (both E (outers_from 0 is (take n ls)) (outer_at (0 + length (take n ls)) is last ∷ []))
    ∙ ap (undecided E) (sym (outers_end 0 is (take n ls) last))
    ∙ ap (λ z. undecided E (outers_from 0 is z)) (sym (take_more ls n no_last inside))

pub none_yet : (E : Env) (count : ℕ) → UndecidedTo E count 0 []
none_yet E count is ls many = refl

pub settled_more : (E : Env) (count n : ℕ) (us : List ℕ) → n < count → is_settled E n ≡ true → UndecidedTo E count n us →
    UndecidedTo E count (n + 1) us
settled_more E count n us lt e h =
    one_more E count n us us lt h (ends_with E n us us true e (sym (append-nil us)))

pub unsettled_more : (E : Env) (count n : ℕ) (us vs : List ℕ) → n < count → is_settled E n ≡ false → UndecidedTo E count n us
    → vs ≡ us ++ n ∷ [] → UndecidedTo E count (n + 1) vs
unsettled_more E count n us vs lt e h g = one_more E count n us vs lt h (ends_with E n us vs false e g)

pub all_met : (E : Env) (count n : ℕ) (us : List ℕ) → count ≤ n → UndecidedTo E count n us → (is : List (ℕ × Value))
    (ls : List Last) → length ls ≡ count → us ≡ undecided E (outers_from 0 is ls)
all_met E count n us le h is ls many =
    h is ls many ∙ ap (λ z. undecided E (outers_from 0 is z)) (take_all n ls (omega (arith, le, many)))
