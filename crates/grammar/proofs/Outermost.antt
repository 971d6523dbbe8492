-- Outermost expressions, in which leaves and operators are counted from the first.
use Rattle.std.proofs.Common.{◌≡◌, ℕ, zero, suc, ◌+◌, ◌≤◌, Bool, List, [], ◌∷◌, ◌++◌, Ok, Err, refl, sym, ap}
use Rattle.std.proofs.Common.{subst, ◌∙◌, arith}
use Rattle.grammar.specs.Tokens.{Tok, Alphabet}
use Rattle.grammar.specs.Fault.{Fault, Unexpected, EndOfText, Deep, Large, OutOfRange}
use Rattle.grammar.specs.Language as l
use Rattle.grammar.specs.Language.{Lang, ranks}
use Rattle.grammar.specs.Parser.{Unread, Parser, Parsed, outer}
use Rattle.grammar.proofs.Bundle.{First, Fills, Sound, IsLimit, Kept, Good}
use Rattle.grammar.proofs.Levels.{marked, inner_level, outer_level, few_ranks, many_ranks, ranks-append}
use Rattle.grammar.proofs.Levels.{length-ranks}

module _ {K : Type 0} (al : Alphabet K) where
  few_after : (ms : List ℕ) (d : ℕ) → (d ≡ 0 + marked ms) × (0 ≤ al.most_counted → d ≤ al.most_counted)
      → 0 + marked ms ≤ al.most_counted
  few_after ms d h = let le : d ≤ al.most_counted = h.1 (omega arith) in omega (arith, h.0, le)

  -- the first mark past the limit is the first rank past it
  outer_full : (c : ℕ) (back : List ℕ) → c ≡ al.most_counted
      → First (λ y. (y ≡ 1) × (al.most_counted ≤ c)) back
      → First (λ k. k ≡ suc al.most_counted) (ranks c back)
  outer_full c [] e h = absurd h
  outer_full c (zero ∷ back) e h = absurd (let no : ⊥ = omega (arith, h.0) in no)
  outer_full c (suc m ∷ back) e h = ap (λ n. suc n) e

  outer_fills : (c : ℕ) (f : Fault) (front back : List ℕ) → (c ≡ 0 + marked front)
      × (0 ≤ al.most_counted → c ≤ al.most_counted) → Fills (inner_level al) c f back
      → Fills (outer_level al) c f (ranks (0 + marked front) back)
  unfolding inner_level outer_level
  outer_fills c Unexpected front back e h = tt
  outer_fills c EndOfText front back e h = tt
  outer_fills c Deep front back e h = tt
  outer_fills c Large front back e h = subst (λ n. First (λ k. k ≡ suc al.most_counted) (ranks n back)) e.0
      (outer_full c back (full_is back h) h)
    where
      full_is : (back : List ℕ) → First (λ y. (y ≡ 1) × (al.most_counted ≤ c)) back → c ≡ al.most_counted
      full_is [] h = absurd h
      full_is (y ∷ back) h = let le : c ≤ al.most_counted = e.1 (omega arith) in omega (arith, le, h.1)
  outer_fills c (OutOfRange least most) front back e h = tt

  outer_limit : (x c : ℕ) (ms : List ℕ) (f : Fault) → IsLimit x (inner_level al) 0 ms f
      → IsLimit x (outer_level al) c (ranks 0 ms) f
  unfolding inner_level outer_level
  outer_limit x c ms Unexpected h = h
  outer_limit x c ms EndOfText h = h
  outer_limit x c ms Deep h = h
  outer_limit x c ms Large h = many_ranks al 0 ms (omega arith) h
  outer_limit x c ms (OutOfRange least most) h = h

  module _ {A : Type 0} (x n m : ℕ) (p : Parser K A) (s : Lang K A) where
    outer_sound : (i : Unread K) (o : Parsed K A) → Sound al x (inner_level al) n m p s
        (record i { count = 0 }) o → Sound al x (outer_level al) n m (outer p) (l.outer s) i o
    unfolding inner_level outer_level
    outer_sound i (Ok q) h = record {
      used = h.used;
      marks = ranks 0 h.marks;
      split = h.split;
      size = h.size;
      aligned = length-ranks 0 h.marks ∙ h.aligned;
      after = few_ranks al 0 h.marks (few_after h.marks q.1.count h.after);
      nested = h.nested;
      balance = h.balance;
      spells = (h.marks, h.spells, refl);
      local = h.local;
    }
    outer_sound i (Err e) later = λ lt. let h = later lt in record {
      used = h.used;
      at = h.at;
      front = ranks 0 h.front;
      count = h.count;
      split = h.split;
      place = h.place;
      aligned = length-ranks 0 h.front ∙ h.aligned;
      after = few_ranks al 0 h.front (few_after h.front h.count h.after);
      nested = h.nested;
      bottom = h.bottom;
      stands = h.stands;
      local = h.local;
      goes = λ start c.
          let w = h.goes start c in
          record {
            answer = w.answer;
            more = w.more;
            back = ranks (0 + marked h.front) w.back;
            spells = (h.front ++ w.back, w.spells, sym (ranks-append 0 h.front w.back));
            fills = outer_fills h.count e.fault h.front w.back h.after w.fills;
          };
    }

    outer_kept : (c : ℕ) (ms : List ℕ) (o : Parsed K A) (a : A) (r : List (Tok K))
        → Kept x (inner_level al) 0 ms o a r → Kept x (outer_level al) c (ranks 0 ms) o a r
    unfolding inner_level outer_level
    outer_kept c ms (Ok q) a r h = (h.0, h.1, few_ranks al 0 ms (few_after ms q.1.count h.2))
    outer_kept c ms (Err e) a r h = outer_limit x c ms e.fault h

-- an outermost expression
pub good_outer : {K A : Type 0} {al : Alphabet K} {x n m : ℕ} {p : Parser K A} {s : Lang K A}
    {empty : Bool} {first cont : K → Bool} → Good al x (inner_level al) n m p s empty first cont
    → Good al x (outer_level al) n m (outer p) (l.outer s) empty first cont
good_outer {al = al} {x} {n} {m} {p} {s} g = record {
  sound = λ i. outer_sound al x n m p s i (p (record i { count = 0 })) (g.sound (record i { count = 0 }));
  sample = λ lt. let y = g.sample lt in (y.0, y.1, ranks 0 y.2, (y.2, y.3, refl));
  begins = λ a u ks y. g.begins a u y.0 y.1;
  kept = λ i a u r ks e y c. subst (λ z. Kept x (outer_level al) i.count z (p (record i { count = 0 })) a
      r) (sym y.2) (outer_kept al x n m p s i.count y.0 (p (record i { count = 0 })) a r
      (g.kept (record i { count = 0 }) a u r y.0 e y.1 c));
}
