-- Terms taken from the end of a list, joined by their halves.
use Rattle.std.proofs.Common.{◌≡◌, ℕ, ◌+◌, ◌-◌, ◌/◌, ◌≤◌, List, [], ◌∷◌, ◌++◌, length, take, drop, map, zero, suc}
use Rattle.std.proofs.Common.{refl, sym, ap, ◌∙◌, arith}
use Rattle.std.proofs.lemmas.List.{length-take, length-drop, length-map, take-map, drop-drop, drop-take}
use Rattle.std.proofs.lemmas.List.{drop_all, drop_at, length-append}
use Rattle.hh_base.specs.declared.value.Pos.{Pos}
use Rattle.host_expr.specs.declared.expr.Expr.{Expr}
use Rattle.hh_term.specs.Placed.{Placed, Nothing, Seq, Trap}
use Rattle.kernel_expand.specs.declared.forms.Join.{Join}
use Rattle.kernel_expand.specs.Forms.{two, joined, waits, awaits}
use Rattle.kernel_expand.specs.Halves.{in_halves}
use Rattle.kernel_expand.proofs.Balanced.{two_halves, no_item, one_item, same_items}

drop_map : {A B : Type 0} (f : A → B) (n : ℕ) (xs : List A) → drop n (map f xs) ≡ map f (drop n xs)
drop_map f zero xs = refl
drop_map f (suc n) [] = refl
drop_map f (suc n) (x ∷ xs) = drop_map f n xs

pub last_two : {A : Type 0} (f : Placed → Placed → Placed) (e : Placed) (g : A → Placed) (xs : List A)
    (count half : ℕ) → 2 ≤ count → count ≤ length xs → half ≡ count / 2
    → f (in_halves f e (map g (drop (length (take (length xs - half) xs) - (count - half))
    (take (length xs - half) xs))))
    (in_halves f e (map g (drop (length xs - half) xs)))
    ≡ in_halves f e (map g (drop (length xs - count) xs))
last_two f e g xs count half least le is =
    let n = length xs in
    let ys = take (n - half) xs in
    let zs = map g (drop (n - count) xs) in
    let many : length zs ≡ count = length-map (drop (n - count) xs) g ∙ length-drop (n - count) xs
    ∙ (let rest : n - (n - count) ≡ count = omega arith in rest) in
    let first : drop (length ys - (count - half)) ys ≡ take (count - half) (drop (n - count) xs) =
    ap (λ z. drop z ys) (let long = length-take (n - half) xs in let at : length ys - (count - half)
    ≡ n - count = omega (arith, long) in at)
    ∙ ap (λ z. drop (n - count) (take z xs)) (let sum : n - half ≡ (n - count) + (count - half) = omega arith in sum)
    ∙ drop-take (n - count) (count - half) xs in
    let second : drop (n - half) xs ≡ drop (count - half) (drop (n - count) xs) =
    ap (λ z. drop z xs) (let sum : n - half ≡ (n - count) + (count - half) = omega arith in sum)
    ∙ sym (drop-drop (count - half) (n - count) xs) in
    (λ i. f (in_halves f e (map g (first i))) (in_halves f e (map g (second i))))
    ∙ sym (λ i. f (in_halves f e (take-map g (count - half) (drop (n - count) xs) i))
    (in_halves f e (drop_map g (count - half) (drop (n - count) xs) i)))
    ∙ sym (two_halves f e zs (count - half) (omega (arith, many)) (omega (arith, many)))

pub none_left : (j : Join) (at : Pos) {A : Type 0} (g : A → Placed) (xs : List A) (count : ℕ) → count ≡ 0
    → Nothing at ≡ joined j at (map g (drop (length xs - count) xs))
none_left j at g xs count e =
    let rest : drop (length xs - count) xs ≡ [] = drop_all (length xs - count) xs (omega arith) in
    sym (no_item (two j at) (Nothing at) (map g (drop (length xs - count) xs))
    (ap (λ z. length (map g z)) rest))

pub one_left : (j : Join) (at : Pos) {A : Type 0} (g : A → Placed) (xs ys : List A) (x : A) (count : ℕ)
    → count ≡ 1 → xs ≡ ys ++ x ∷ [] → g x ≡ joined j at (map g (drop (length xs - count) xs))
one_left j at g xs ys x count e is =
    let long : length xs ≡ length ys + 1 = ap length is ∙ length-append ys (x ∷ []) in
    let rest : drop (length xs - count) xs ≡ x ∷ [] =
    ap (λ z. drop (length xs - count) z) is ∙ drop_at ys (x ∷ []) (length xs - count) (omega (arith, long)) in
    sym (ap (λ z. joined j at (map g z)) rest ∙ one_item (two j at) (Nothing at) (g x))

-- ---- waits one after the other

pub awaits_none : (at : Pos) (d : Expr ℕ) (n : ℕ) → n ≡ 0 → Nothing at ≡ awaits at n d
awaits_none at d n e = sym (no_item (Seq at) (Nothing at) [] refl)
    ∙ ap (λ k. awaits at k d) (sym e)

pub awaits_one : (at : Pos) (d : Expr ℕ) (n : ℕ) → n ≡ 1 → Trap at (waits at d) ≡ awaits at n d
awaits_one at d n e = sym (one_item (Seq at) (Nothing at) (Trap at (waits at d)))
    ∙ ap (λ k. awaits at k d) (sym e)

pub awaits_more : (at : Pos) (d : Expr ℕ) (n half : ℕ) → 2 ≤ n → half ≡ n / 2
    → Seq at (awaits at (n - half) d) (awaits at half d) ≡ awaits at n d
awaits_more at d n half le is = sym (same_items (Seq at) (Nothing at) (Trap at (waits at d)) n half le is)
