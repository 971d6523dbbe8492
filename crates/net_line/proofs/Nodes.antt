-- One node of an expression more.
use Rattle.std.proofs.Common.{◌≡◌, ℕ, zero, suc, ◌-◌, ◌<◌, ◌≤◌, List, [], ◌∷◌, length, take, drop, Option}
use Rattle.std.proofs.Common.{Some, None, refl, arith, ap, ◌∙◌}
use Rattle.host_expr.specs.declared.expr.Expr.{Expr}
use Rattle.net_line.specs.ExpressionReading.{expression, with_operands, node_word, placed_of, at_place}
use Rattle.net_line.specs.Decoding.{number_of}
use Rattle.net_line.specs.Reading.{Read, Reader, ◌>>=◌, part}

pub too_deep : (depth room : ℕ) (l : List ℕ) → depth ≡ 0 → expression depth room l ≡ None
too_deep zero room l e = refl
too_deep (suc depth) room l e = absurd (let no : ⊥ = omega (arith, e) in no)

pub too_large : (depth room : ℕ) (l : List ℕ) → room ≡ 0 → expression depth room l ≡ None
too_large zero room l e = refl
too_large (suc depth) zero l e = refl
too_large (suc depth) (suc room) l e = absurd (let no : ⊥ = omega (arith, e) in no)

pub deeper : (depth room : ℕ) (l : List ℕ) → 0 < depth → 0 < room
    → expression depth room l
    ≡ (part >>= λ w. with_operands (expression (depth - 1)) (node_word w) w (room - 1)) l
deeper zero room l d r = absurd (let no : ⊥ = omega (arith, d) in no)
deeper (suc depth) zero l d r = absurd (let no : ⊥ = omega (arith, r) in no)
deeper (suc depth) (suc room) l d r =
    let same_depth : depth ≡ suc depth - 1 = omega arith in
    let same_room : room ≡ suc room - 1 = omega arith in
    (λ i. (part >>= λ w. with_operands (expression (same_depth i)) (node_word w) w (same_room i)) l)

pub placed_short : (w : List ℕ) → length w < 4 → placed_of w ≡ None
placed_short [] h = refl
placed_short (a ∷ []) h = refl
placed_short (a ∷ b ∷ []) h = refl
placed_short (a ∷ b ∷ c ∷ []) h = refl
placed_short (a ∷ b ∷ c ∷ d ∷ ds) h = absurd (let clash : ⊥ = omega (arith, h) in clash)

pub placed_split : (w : List ℕ) → 4 ≤ length w → placed_of w ≡ at_place (take 4 w) (number_of (drop 4 w))
placed_split [] h = absurd (let clash : ⊥ = omega (arith, h) in clash)
placed_split (a ∷ []) h = absurd (let clash : ⊥ = omega (arith, h) in clash)
placed_split (a ∷ b ∷ []) h = absurd (let clash : ⊥ = omega (arith, h) in clash)
placed_split (a ∷ b ∷ c ∷ []) h = absurd (let clash : ⊥ = omega (arith, h) in clash)
placed_split (a ∷ b ∷ c ∷ d ∷ ds) h = refl
