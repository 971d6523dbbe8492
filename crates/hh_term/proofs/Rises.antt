-- Each construct of the table of Must and Can: where its parts know more, it knows more.
use Rattle.std.proofs.Common.{◌≡◌, refl, sym, ap, subst, ◌∙◌, ℕ, zero, suc, Bool, true, false, cond}
use Rattle.std.proofs.Common.{Option, Some, None, List, []}
use Rattle.host_expr.specs.declared.cell.Cell.{Cell}
use Rattle.host_expr.specs.declared.cell.Cell.TheVariants as cell
use Rattle.host_expr.specs.Evaluation.{truth}
use Rattle.host_expr.specs.Knows.{CellBelow}
use Rattle.host_expr.proofs.Truths.{or_mono, or_left, or_right}
use Rattle.hh_term.specs.MustCan.{MustCan, Index, Executed, Possible, Bag, gives, one_of, is_end, go_on}
use Rattle.hh_term.specs.MustCan.{sequence, greater, parallel, lower_code, trapped, chosen, held}
use Rattle.hh_term.specs.Knows.{IndexBelow, CodeBelow, Embeds, ended, OnSignal, CellAbove, MustCanBelow}
use Rattle.hh_term.proofs.Embedding.{nothing_sub, sub_append, sub_left, sub_right}
use Rattle.hh_term.proofs.CodeSets.{in_turn_mono, greater_mono, lowered_mono}

pub gives_up : (b b' : Bag) (k : ℕ) (i j : Index) → Embeds (OnSignal CellBelow) b b'
    → Embeds (OnSignal CellAbove) b' b → IndexBelow i j → MustCanBelow (gives b k i) (gives b' k j)
gives_up b b' k Executed Executed up down h = record { must = up; code = refl; can = down; codes = λ c e. e }
gives_up b b' k Executed Possible up down h = cc
gives_up b b' k Possible Executed up down h =
    record { must = nothing_sub b'; code = tt; can = down; codes = λ c e. e }
gives_up b b' k Possible Possible up down h = record { must = ended; code = tt; can = down; codes = λ c e. e }

pub code_up : (k : ℕ) (i j : Index) → IndexBelow i j → MustCanBelow (gives [] k i) (gives [] k j)
code_up k i j h = gives_up [] [] k i j ended ended h

pub one_of_up : (a b a' b' : MustCan) → MustCanBelow a a' → MustCanBelow b b'
    → MustCanBelow (one_of a b) (one_of a' b')
one_of_up a b a' b' h g =
    record {
      must = ended;
      code = tt;
      can = sub_append h.can g.can;
      codes = λ c. or_mono (a'.codes c) (b'.codes c) (a.codes c) (b.codes c) (h.codes c) (g.codes c);
    }

pub first_up : (a b a' : MustCan) → MustCanBelow a a' → MustCanBelow (one_of a b) a'
first_up a b a' h =
    record {
      must = nothing_sub a'.must;
      code = tt;
      can = sub_left b.can h.can;
      codes = λ c e. or_left (a.codes c) (b.codes c) (h.codes c e);
    }

pub second_up : (a b b' : MustCan) → MustCanBelow b b' → MustCanBelow (one_of a b) b'
second_up a b b' h =
    record {
      must = nothing_sub b'.must;
      code = tt;
      can = sub_right a.can h.can;
      codes = λ c e. or_right (a.codes c) (b.codes c) (h.codes c e);
    }

pub is_end_up : (c d : Option ℕ) → CodeBelow c d → IndexBelow (is_end c) (is_end d)
is_end_up None d h = tt
is_end_up (Some zero) d h = ap is_end h
is_end_up (Some (suc k)) d h = tt

pub go_on_up : (c d m n : Option ℕ) → CodeBelow c d → CodeBelow m n → CodeBelow (go_on c m) (go_on d n)
go_on_up None d m n h g = tt
go_on_up (Some zero) d m n h g = subst (λ z. CodeBelow m (go_on z n)) (sym h) g
go_on_up (Some (suc k)) d m n h g = ap (λ z. go_on z n) h

pub cond_sub : {A : Type 0} {R : A → A → Type 0} (x y : Bool) (us vs : List A) → (x ≡ true → y ≡ true)
    → Embeds R us vs → Embeds R (cond x us []) (cond y vs [])
cond_sub true true us vs h g = g
cond_sub true false us vs h g = let e : false ≡ true = h refl in cc
cond_sub false y us vs h g = nothing_sub (cond y vs [])

pub sequence_up : (a a' : MustCan) (f f' : Index → MustCan) → MustCanBelow a a'
    → ((i j : Index) → IndexBelow i j → MustCanBelow (f i) (f' j))
    → MustCanBelow (sequence a f) (sequence a' f')
sequence_up a a' f f' h g =
    let n = g (is_end a.code) (is_end a'.code) (is_end_up a.code a'.code h.code) in
    record {
      must = sub_append h.must n.must;
      code = go_on_up a.code a'.code (f (is_end a.code)).code (f' (is_end a'.code)).code h.code n.code;
      can = sub_append h.can
          (cond_sub (a'.codes 0) (a.codes 0) (f' (is_end a'.code)).can (f (is_end a.code)).can
          (h.codes 0) n.can);
      codes = in_turn_mono a'.codes (f' (is_end a'.code)).codes a.codes
          (f (is_end a.code)).codes h.codes n.codes;
    }

greater_up : (c d c' d' : Option ℕ) → CodeBelow c c' → CodeBelow d d'
    → CodeBelow (greater c d) (greater c' d')
greater_up None d c' d' h g = tt
greater_up (Some c) None c' d' h g = tt
greater_up (Some c) (Some d) c' d' h g = ap (λ z. greater z d') h ∙ ap (greater (Some c)) g

pub parallel_up : (a b a' b' : MustCan) → MustCanBelow a a' → MustCanBelow b b'
    → MustCanBelow (parallel a b) (parallel a' b')
parallel_up a b a' b' h g =
    record {
      must = sub_append h.must g.must;
      code = greater_up a.code b.code a'.code b'.code h.code g.code;
      can =
          sub_append h.can g.can;
      codes = greater_mono a'.codes b'.codes a.codes b.codes h.codes g.codes;
    }

lower_code_up : (c d : Option ℕ) → CodeBelow c d → CodeBelow (lower_code c) (lower_code d)
lower_code_up None d h = tt
lower_code_up (Some c) d h = ap lower_code h

pub trapped_up : (a a' : MustCan) → MustCanBelow a a' → MustCanBelow (trapped a) (trapped a')
trapped_up a a' h =
    record {
      must = h.must;
      code = lower_code_up a.code a'.code h.code;
      can = h.can;
      codes = lowered_mono a'.codes a.codes h.codes;
    }

-- a meaning at two environments, for both indices
pub record Rises (p q : Index → MustCan) : Type 0 where
  pub up : (i j : Index) → IndexBelow i j → MustCanBelow (p i) (q j)

cond_up : (b : Bool) (a x y : MustCan) → MustCanBelow a x → MustCanBelow a y → MustCanBelow a (cond b x y)
cond_up true a x y h g = h
cond_up false a x y h g = g

cond_both_up : (b : Bool) (a b' x y : MustCan) → MustCanBelow a x → MustCanBelow b' y
    → MustCanBelow (cond b a b') (cond b x y)
cond_both_up true a b' x y h g = h
cond_both_up false a b' x y h g = g

pub chosen_up : (c d : Cell) (i j : Index) (p q p' q' : Index → MustCan) → CellBelow c d → IndexBelow i j
    → Rises p p' → Rises q q' → MustCanBelow (chosen c i p q) (chosen d j p' q')
chosen_up cell.Unknown cell.Unknown i j p q p' q' l h f g =
    one_of_up (p Possible) (q Possible) (p' Possible) (q' Possible) (f.up Possible Possible tt)
    (g.up Possible Possible tt)
chosen_up cell.Unknown (cell.Known v) i j p q p' q' l h f g =
    cond_up (truth v) (one_of (p Possible) (q Possible)) (p' j) (q' j)
    (first_up (p Possible) (q Possible) (p' j) (f.up Possible j tt))
    (second_up (p Possible) (q Possible) (q' j) (g.up Possible j tt))
chosen_up cell.Unknown (cell.Faulted o k) i j p q p' q' l h f g =
    second_up (p Possible) (q Possible) (q' j) (g.up Possible j tt)
chosen_up (cell.Known v) d i j p q p' q' l h f g =
    subst (λ z. MustCanBelow (cond (truth v) (p i) (q i)) (chosen z j p' q')) (sym l)
    (cond_both_up (truth v) (p i) (q i) (p' j) (q' j) (f.up i j h) (g.up i j h))
chosen_up (cell.Faulted o k) d i j p q p' q' l h f g =
    subst (λ z. MustCanBelow (q i) (chosen z j p' q')) (sym l) (g.up i j h)

pub held_up : (c d : Cell) (i j : Index) (p p' : Index → MustCan) → CellBelow c d → IndexBelow i j
    → Rises p p' → MustCanBelow (held c i p) (held d j p')
held_up cell.Unknown cell.Unknown i j p p' l h f =
    one_of_up (p Possible) (gives [] 1 Possible) (p' Possible) (gives [] 1 Possible)
    (f.up Possible Possible tt) (code_up 1 Possible Possible tt)
held_up cell.Unknown (cell.Known v) i j p p' l h f =
    cond_up (truth v) (one_of (p Possible) (gives [] 1 Possible)) (gives [] 1 j) (p' j)
    (second_up (p Possible) (gives [] 1 Possible) (gives [] 1 j) (code_up 1 Possible j tt))
    (first_up (p Possible) (gives [] 1 Possible) (p' j) (f.up Possible j tt))
held_up cell.Unknown (cell.Faulted o k) i j p p' l h f =
    first_up (p Possible) (gives [] 1 Possible) (p' j) (f.up Possible j tt)
held_up (cell.Known v) d i j p p' l h f =
    subst (λ z. MustCanBelow (cond (truth v) (gives [] 1 i) (p i)) (held z j p')) (sym l)
    (cond_both_up (truth v) (gives [] 1 i) (p i) (gives [] 1 j) (p' j) (code_up 1 i j h) (f.up i j h))
held_up (cell.Faulted o k) d i j p p' l h f =
    subst (λ z. MustCanBelow (p i) (held z j p')) (sym l) (f.up i j h)
