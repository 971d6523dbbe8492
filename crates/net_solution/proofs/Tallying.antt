-- What a tally tells of the emissions that it came to.
use Rattle.std.proofs.Common.{◌≡◌, refl, sym, ap, ◌∙◌, ℕ, suc, ◌≤◌, Bool, true, false, cond, not}
use Rattle.std.proofs.Common.{◌&&◌, ◌||◌, ◌==◌, Option, List, [], ◌∷◌, ◌++◌, length, map, append-nil}
use Rattle.std.proofs.Common.{arith}
use Rattle.std.proofs.lemmas.Bool.{eqb-true, eqb-false, eq-eqb, ne_eqb}
use Rattle.std.specs.List.{list_all}
use Rattle.hh_base.specs.declared.value.Kind.{Kind}
use Rattle.hh_base.specs.declared.value.Value.{Value}
use Rattle.hh_base.specs.declared.value.CombineWord.{CombineWord}
use Rattle.hh_base.specs.declared.value.Tri.TheVariants.{Unknown, Zero, One}
use Rattle.host_expr.specs.declared.cell.Cell.{Cell}
use Rattle.host_expr.specs.declared.cell.Cell.TheVariants as cell
use Rattle.host_expr.specs.Environment.{is_known}
use Rattle.host_expr.specs.Combination.{combined, counts_as}
use Rattle.hh_term.specs.MustCan.{status_by, value_by, all_known}
use Rattle.net_solution.specs.Equations.{Emission, is_absent, is_settled, made, value_made}
use Rattle.net_solution.specs.Equations.{value_by_emissions}
use Rattle.status_table.specs.declared.tally.Tally.{Tally}
use Rattle.status_table.specs.Tallies.{Adds, tally_of}
use Rattle.net_solution.proofs.Truths.{and_left}
use Rattle.net_solution.specs.Tallied.{possible, tallied, Meets}

pub made_append : (es fs : List Emission) → made (es ++ fs) ≡ made es ++ made fs
made_append [] fs = refl
made_append ((Zero, c) ∷ es) fs = made_append es fs
made_append ((Unknown, c) ∷ es) fs = made_append es fs
made_append ((One, c) ∷ es) fs = ap (λ cs. c ∷ cs) (made_append es fs)

pub possible_append : (es fs : List Emission) → possible (es ++ fs) ≡ possible es ++ possible fs
possible_append [] fs = refl
possible_append ((Zero, c) ∷ es) fs = possible_append es fs
possible_append ((Unknown, c) ∷ es) fs = ap (λ cs. c ∷ cs) (possible_append es fs)
possible_append ((One, c) ∷ es) fs = ap (λ cs. c ∷ cs) (possible_append es fs)

made_fewer : (es : List Emission) → length (made es) ≤ length (possible es)
made_fewer [] = omega arith
made_fewer ((Zero, c) ∷ es) = made_fewer es
made_fewer ((Unknown, c) ∷ es) = let h = made_fewer es in omega (arith, h)
made_fewer ((One, c) ∷ es) = let h = made_fewer es in omega (arith, h)

below_differs : (m n : ℕ) → m ≤ n → (m == suc n) ≡ false
below_differs m n h = by_test (m == suc n) refl
  where
    by_test : (b : Bool) → (m == suc n) ≡ b → b ≡ false
    by_test false e = refl
    by_test true e = absurd (let same = eqb-true m (suc n) e in omega (arith, same, h))

equal_suc : (m n : ℕ) → (suc m == suc n) ≡ (m == n)
equal_suc m n = by_test (m == n) refl
  where
    by_test : (b : Bool) → (m == n) ≡ b → (suc m == suc n) ≡ b
    by_test true e = eq-eqb (suc m) (suc n) (ap suc (eqb-true m n e))
    by_test false e = ne_eqb (suc m) (suc n) (λ h. eqb-false m n e (omega (arith, h)))

false_both : (b : Bool) → b ≡ false → (k : Bool) → (b && k) ≡ false
false_both b e k = ap (λ x. x && k) e

moved : (a k l s : Bool) → (a && l) ≡ s → (a && (k && l)) ≡ (k && s)
moved true true l s e = e
moved true false l s e = refl
moved false true l s e = e
moved false false l s e = refl

-- all are settled where as many may be made as are made, and what those carry is known
whole : (es : List Emission) → (length (made es) == length (possible es) && all_known (made es)) ≡ list_all
    is_settled es
whole [] = refl
whole ((Zero, c) ∷ es) = whole es
whole ((Unknown, c) ∷ es) =
    false_both (length (made es) == suc (length (possible es)))
    (below_differs (length (made es)) (length (possible es)) (made_fewer es)) (all_known (made es))
whole ((One, c) ∷ es) =
    ap (λ z. z && (is_known c && all_known (made es))) (equal_suc (length (made es)) (length (possible es)))
    ∙ moved (length (made es) == length (possible es)) (is_known c) (all_known (made es))
    (list_all is_settled es)
    (whole es)

-- what the tally's value over this base value is
pub value_told : (k : Kind) (w : Option CombineWord) (b : Bool) (p : Value) (es : List Emission)
    → cond (b || not (is_absent (status_by (made es) (possible es))))
    (value_by k w p (made es) (possible es)) cell.Unknown
    ≡ value_by_emissions k w (cond b (cell.Known p) cell.Unknown) es
value_told k w b p es = by_lists (made es) (possible es) (made_fewer es) (list_all is_settled es) (whole es) b
  where
    by_lists : (m c : List Cell) → length m ≤ length c → (s : Bool) → (length m == length c && all_known m)
        ≡ s
        → (b : Bool)
        → cond (b || not (is_absent (status_by m c))) (value_by k w p m c) cell.Unknown
        ≡ cond s (value_made k w (cond b (cell.Known p) cell.Unknown) m) cell.Unknown
    by_lists [] [] le true e true = refl
    by_lists [] [] le true e false = refl
    by_lists [] [] le false e b = cc
    by_lists (x ∷ m) [] le s e b = absurd (omega (arith, le))
    by_lists [] (y ∷ c) le true e b =
        absurd (let h = eqb-true 0 (suc (length c)) (and_left (0 == suc (length c)) true e) in omega
        (arith, h))
    by_lists [] (y ∷ c) le false e true = ap (λ z. cond z (cell.Known (combined k w [])) cell.Unknown) e
    by_lists [] (y ∷ c) le false e false = ap (λ z. cond z (cell.Known (combined k w [])) cell.Unknown) e
    by_lists (x ∷ m) (y ∷ c) le s e true = ap (λ z. cond z (cell.Known
        (combined k w (map (counts_as k) (x ∷ m)))) cell.Unknown) e
    by_lists (x ∷ m) (y ∷ c) le s e false = ap (λ z. cond z (cell.Known
        (combined k w (map (counts_as k) (x ∷ m)))) cell.Unknown) e

module _ (k : Kind) (w : Option CombineWord) where
  by_parts : (es fs : List Emission) (m c : List Cell) → made es ++ m ≡ made fs → possible es ++ c ≡
      possible fs
      → tally_of k w (made es ++ m) (possible es ++ c) ≡ tallied k w fs
  by_parts es fs m c e h = λ i. tally_of k w (e i) (h i)

  pub meets_nothing : (t : Tally) → Meets k w t t []
  meets_nothing t = record { meets = λ es e. e ∙ ap (tallied k w) (sym (append-nil es)) }

  pub meets_zero : (t : Tally) (c : Cell) → Meets k w t t ((Zero, c) ∷ [])
  meets_zero t c =
      record {
        meets = λ es e.
            e ∙ λ i. tally_of k w (sym (made_append es ((Zero, c) ∷ []) ∙ append-nil (made es)) i)
            (sym (possible_append es ((Zero, c) ∷ []) ∙ append-nil (possible es)) i);
      }

  pub meets_unknown : (t u : Tally) (c : Cell) → Adds k w t u [] (c ∷ []) → Meets k w t u ((Unknown, c) ∷ [])
  meets_unknown t u c h =
      record {
        meets = λ es e.
            h.adds (made es) (possible es) e
            ∙ by_parts es (es ++ (Unknown, c) ∷ []) [] (c ∷ []) (sym (made_append es ((Unknown, c) ∷ [])))
            (sym (possible_append es ((Unknown, c) ∷ [])));
      }

  pub meets_one : (t u : Tally) (c : Cell) → Adds k w t u (c ∷ []) (c ∷ []) → Meets k w t u ((One, c) ∷ [])
  meets_one t u c h =
      record {
        meets = λ es e.
            h.adds (made es) (possible es) e
            ∙ by_parts es (es ++ (One, c) ∷ []) (c ∷ []) (c ∷ []) (sym (made_append es ((One, c) ∷ [])))
            (sym (possible_append es ((One, c) ∷ [])));
      }
