-- One flat table at a standstill gives what the nested definition gives.
use Rattle.std.proofs.Common.{◌≡◌, refl, sym, subst, ap, ◌∙◌, ℕ, suc, ◌+◌, Bool, true, false, cond, ◌&&◌}
use Rattle.std.proofs.Common.{◌||◌, Option, Some, None, List, [], ◌∷◌}
use Rattle.hh_base.specs.declared.item.Item.{Item}
use Rattle.host_expr.specs.declared.cell.Cell.{Cell}
use Rattle.host_expr.specs.declared.cell.Cell.TheVariants as cell
use Rattle.host_expr.specs.declared.cell.SigCell.{SigCell}
use Rattle.host_expr.specs.Expression.{Expression}
use Rattle.host_expr.specs.Environment.{Env, put, unsolved}
use Rattle.host_expr.specs.Evaluation.{eval_of, truth}
use Rattle.host_expr.specs.Knows.{CellBelow, EnvBelow, SignalBelow}
use Rattle.host_expr.proofs.Evaluating.{eval_up}
use Rattle.hh_term.specs.Statement.{Async, Emit, Exit, If, Local, Loop, Nothing, Par, Pause, Seq, Statement}
use Rattle.hh_term.specs.Statement.{Suspend, Trap}
use Rattle.hh_term.specs.Selection.{AtAsync, Both, First, Inside, Resume, Scope, Second, Start, Task}
use Rattle.hh_term.specs.MustCan.{Bag, Executed, Index, MustCan, Possible, Table, answer_bag, answer_code}
use Rattle.hh_term.specs.MustCan.{answered, chosen, emitted, gives, held, hide, is_end, must_can, one_of}
use Rattle.hh_term.specs.MustCan.{parallel, round, sequence, solve, trapped}
use Rattle.hh_term.specs.Knows.{CellAbove, CodeBelow, Embeds, IndexBelow, MustCanBelow, MustWithinCan}
use Rattle.hh_term.specs.Knows.{NothingSure, OnSignal, ended, keep}
use Rattle.hh_term.proofs.Embedding.{nothing_sub, same_bag_down, same_bag_up, sub_append}
use Rattle.hh_term.proofs.Rises.{code_up, cond_sub, first_up, gives_up, go_on_up, is_end_up, one_of_up}
use Rattle.hh_term.proofs.Rises.{parallel_up, second_up, trapped_up}
use Rattle.hh_term.proofs.CodeSets.{in_turn_mono}
use Rattle.hh_term.proofs.Rounds.{hide_up, put_up, raised_up}
use Rattle.hh_term.proofs.WithinCan.{chosen_nothing, chosen_within, end_known, gives_nothing, gives_within}
use Rattle.hh_term.proofs.WithinCan.{held_nothing, held_within, hide_nothing, hide_within, parallel_nothing}
use Rattle.hh_term.proofs.WithinCan.{parallel_within, sequence_nothing, sequence_within, trapped_nothing}
use Rattle.hh_term.proofs.WithinCan.{trapped_within}
use Rattle.hh_term.proofs.MustCanLaws.{must_can_lawful}
use Rattle.status_table.specs.Flat.{Cells, cell_with, flat}
use Rattle.status_table.specs.Standing.{ChosenAt, HeldAt, Pick, Stands}
use Rattle.status_table.proofs.Bounding.{Bounded}
use Rattle.hh_term.specs.Codes.{CodeSet, without_end}

-- ---- a flat pass is sound, whatever the table
pub record Fair (p : Index → MustCan) : Type 0 where
  pub within : (i : Index) → MustWithinCan (p i)
  pub nothing : NothingSure (p Possible)

fair_gives : (b : Bag) (k : ℕ) → Fair (λ i. gives b k i)
fair_gives b k = record { within = λ i. gives_within b k i; nothing = gives_nothing b k }

fair_sequence : (p q : Index → MustCan) → Fair p → Fair q → Fair (λ i. sequence (p i) q)
fair_sequence p q h g = record {
  within = λ i. sequence_within (p i) q (h.within i) g.within g.nothing;
  nothing = sequence_nothing
      (p Possible) q h.nothing g.nothing;
}

fair_together : (p q : Index → MustCan) → Fair p → Fair q → Fair (λ i. parallel (p i) (q i))
fair_together p q h g = record {
  within = λ i. parallel_within (p i) (q i) (h.within i) (g.within i);
  nothing = parallel_nothing
      (p Possible) (q Possible) h.nothing g.nothing;
}

fair_trapped : (p : Index → MustCan) → Fair p → Fair (λ i. trapped (p i))
fair_trapped p h = record
    { within = λ i. trapped_within (p i) (h.within i); nothing = trapped_nothing (p Possible) h.nothing }

fair_hide : (s : ℕ) (p : Index → MustCan) → Fair p → Fair (λ i. hide s (p i))
fair_hide s p h = record
    { within = λ i. hide_within s (p i) (h.within i); nothing = hide_nothing s (p Possible) h.nothing }

fair_answered : (s : Option ℕ) (queue : List Item) → Fair (λ i. answered s queue i)
fair_answered s (a ∷ queue) = fair_gives (answer_bag s a.value) (answer_code a.last)
fair_answered s [] = fair_gives [] 1

pub flat_fair : (T : Table) (τ : Cells) (p : Statement) (d l : ℕ) (t : Task) (E : Env) → Fair
    (λ i. flat T τ p d l t i E)
flat_fair T τ Nothing d l t E = fair_gives [] 0
flat_fair T τ Pause d l Start E = fair_gives [] 1
flat_fair T τ Pause d l (Resume m) E = fair_gives [] 0
flat_fair T τ (Emit s e) d l t E = fair_gives ((s, emitted e E) ∷ []) 0
flat_fair T τ (If e p q) d l Start E =
    let h = flat_fair T τ p d l Start E in
    let g = flat_fair T τ q d l Start E in
    let P : Index → MustCan = λ j. flat T τ p d l Start j E in
    let Q : Index → MustCan = λ j. flat T τ q d l Start j E in
    record {
      within = λ i. chosen_within (eval_of e E []) i P Q (h.within i) (g.within i);
      nothing =
          chosen_nothing (eval_of e E []) P Q h.nothing g.nothing;
    }
flat_fair T τ (If e p q) d l (Resume (First m)) E = flat_fair T τ p d l (Resume m) E
flat_fair T τ (If e p q) d l (Resume (Second m)) E = flat_fair T τ q d l (Resume m) E
flat_fair T τ (If e p q) d l (Resume _) E = fair_gives [] 0
flat_fair T τ (Suspend e p) d l Start E = flat_fair T τ p d l Start E
flat_fair T τ (Suspend e p) d l (Resume (Inside m)) E =
    let h = flat_fair T τ p d l (Resume m) E in
    let P : Index → MustCan = λ j. flat T τ p d l (Resume m) j E in
    record {
      within = λ i. held_within (eval_of e E []) i P (h.within i);
      nothing = held_nothing
          (eval_of e E []) P h.nothing;
    }
flat_fair T τ (Suspend e p) d l (Resume _) E = fair_gives [] 0
flat_fair T τ (Seq p q) d l Start E = fair_sequence (λ i. flat T τ p d l Start i E)
    (λ i. flat T τ q d l Start i E) (flat_fair T τ p d l Start E) (flat_fair T τ q d l Start E)
flat_fair T τ (Seq p q) d l (Resume (First m)) E = fair_sequence (λ i. flat T τ p d l (Resume m) i E)
    (λ i. flat T τ q d l Start i E) (flat_fair T τ p d l (Resume m) E) (flat_fair T τ q d l Start E)
flat_fair T τ (Seq p q) d l (Resume (Second m)) E = flat_fair T τ q d l (Resume m) E
flat_fair T τ (Seq p q) d l (Resume _) E = fair_gives [] 0
flat_fair T τ (Par p q) d l Start E = fair_together (λ i. flat T τ p d l Start i E)
    (λ i. flat T τ q d l Start i E) (flat_fair T τ p d l Start E) (flat_fair T τ q d l Start E)
flat_fair T τ (Par p q) d l (Resume (First m)) E = fair_together (λ i. flat T τ p d l (Resume m) i E)
    (λ i. gives [] 0 i) (flat_fair T τ p d l (Resume m) E) (fair_gives [] 0)
flat_fair T τ (Par p q) d l (Resume (Second m)) E = fair_together (λ i. gives [] 0 i)
    (λ i. flat T τ q d l (Resume m) i E) (fair_gives [] 0) (flat_fair T τ q d l (Resume m) E)
flat_fair T τ (Par p q) d l (Resume (Both m n)) E = fair_together (λ i. flat T τ p d l (Resume m) i E)
    (λ i. flat T τ q d l (Resume n) i E) (flat_fair T τ p d l (Resume m) E) (flat_fair T τ q d l (Resume n) E)
flat_fair T τ (Par p q) d l (Resume _) E = fair_gives [] 0
flat_fair T τ (Loop p) d l Start E = flat_fair T τ p (suc d) l Start E
flat_fair T τ (Loop p) d l (Resume (Inside m)) E = fair_sequence (λ i. flat T τ p (suc d) l (Resume m) i E)
    (λ i. flat T τ p (suc d) (suc d) Start i E) (flat_fair T τ p (suc d) l (Resume m) E)
    (flat_fair T τ p (suc d) (suc d) Start E)
flat_fair T τ (Loop p) d l (Resume _) E = fair_gives [] 0
flat_fair T τ (Trap p) d l Start E = fair_trapped (λ i. flat T τ p d l Start i E)
    (flat_fair T τ p d l Start E)
flat_fair T τ (Trap p) d l (Resume (Inside m)) E = fair_trapped (λ i. flat T τ p d l (Resume m) i E)
    (flat_fair T τ p d l (Resume m) E)
flat_fair T τ (Trap p) d l (Resume _) E = fair_gives [] 0
flat_fair T τ (Exit k) d l t E = fair_gives [] (k + 2)
flat_fair T τ (Local s p) d l Start E = let F = put E s (cell_with (τ s l) false (T.first s)) in fair_hide s
    (λ i. flat T τ p d l Start i F) (flat_fair T τ p d l Start F)
flat_fair T τ (Local s p) d l (Resume (Scope m b v)) E = let F = put E s (cell_with (τ s l) b v) in fair_hide
    s (λ i. flat T τ p d l (Resume m) i F) (flat_fair T τ p d l (Resume m) F)
flat_fair T τ (Local s p) d l (Resume _) E = fair_gives [] 0
flat_fair T τ (Async n) d l Start E = fair_gives [] 1
flat_fair T τ (Async n) d l (Resume (AtAsync id args queue suspended)) E = fair_answered (T.target n) queue
flat_fair T τ (Async n) d l (Resume _) E = fair_gives [] 0

-- ---- from where a fact holds

pub record RisesIf (P : Index → Type 0) (p q : Index → MustCan) : Type 0 where
  pub up : (i j : Index) → IndexBelow i j → P j → MustCanBelow (p i) (q j)

pick_up : (b : Bool) (P Q : Type 0) (a x y : MustCan) → (P → MustCanBelow a x) → (Q → MustCanBelow a y) → Pick
    b P Q → MustCanBelow a (cond b x y)
pick_up true P Q a x y h g k = h k
pick_up false P Q a x y h g k = g k

pick_both : (b : Bool) (P Q : Type 0) (a b' x y : MustCan) → (P → MustCanBelow a x) → (Q → MustCanBelow b' y)
    → Pick b P Q → MustCanBelow (cond b a b') (cond b x y)
pick_both true P Q a b' x y h g k = h k
pick_both false P Q a b' x y h g k = g k

chosen_if : (c d : Cell) (i j : Index) (P Q : Index → Type 0) (p q p' q' : Index → MustCan) → CellBelow c d →
    IndexBelow i j → RisesIf P p p' → RisesIf Q q q' → ChosenAt d j P Q → MustCanBelow (chosen c i p q)
    (chosen d j p' q')
chosen_if cell.Unknown cell.Unknown i j P Q p q p' q' l h f g k = one_of_up (p Possible) (q Possible)
    (p' Possible) (q' Possible) (f.up Possible Possible tt k.0) (g.up Possible Possible tt k.1)
chosen_if cell.Unknown (cell.Known v) i j P Q p q p' q' l h f g k =
    pick_up (truth v) (P j) (Q j) (one_of (p Possible) (q Possible)) (p' j) (q' j)
    (λ r. first_up (p Possible) (q Possible) (p' j) (f.up Possible j tt r))
    (λ r. second_up (p Possible) (q Possible) (q' j) (g.up Possible j tt r)) k
chosen_if cell.Unknown (cell.Faulted o n) i j P Q p q p' q' l h f g k = second_up (p Possible) (q Possible)
    (q' j) (g.up Possible j tt k)
chosen_if (cell.Known v) d i j P Q p q p' q' l h f g k =
    let r : ChosenAt (cell.Known v) j P Q = subst (λ z. ChosenAt z j P Q) l k in
    subst (λ z. MustCanBelow (cond (truth v) (p i) (q i)) (chosen z j p' q')) (sym l)
    (pick_both (truth v) (P j) (Q j) (p i) (q i) (p' j) (q' j) (f.up i j h) (g.up i j h) r)
chosen_if (cell.Faulted o n) d i j P Q p q p' q' l h f g k =
    let r : ChosenAt (cell.Faulted o n) j P Q = subst (λ z. ChosenAt z j P Q) l k in
    subst (λ z. MustCanBelow (q i) (chosen z j p' q')) (sym l) (g.up i j h r)

held_if : (c d : Cell) (i j : Index) (P : Index → Type 0) (p p' : Index → MustCan) → CellBelow c d →
    IndexBelow i j → RisesIf P p p' → HeldAt d j P → MustCanBelow (held c i p) (held d j p')
held_if cell.Unknown cell.Unknown i j P p p' l h f k = one_of_up (p Possible) (gives [] 1 Possible)
    (p' Possible) (gives [] 1 Possible) (f.up Possible Possible tt k) (code_up 1 Possible Possible tt)
held_if cell.Unknown (cell.Known v) i j P p p' l h f k =
    pick_up (truth v) (Unit {0}) (P j) (one_of (p Possible) (gives [] 1 Possible)) (gives [] 1 j) (p' j)
    (λ r. second_up (p Possible) (gives [] 1 Possible) (gives [] 1 j) (code_up 1 Possible j tt))
    (λ r. first_up (p Possible) (gives [] 1 Possible) (p' j) (f.up Possible j tt r)) k
held_if cell.Unknown (cell.Faulted o n) i j P p p' l h f k = first_up (p Possible) (gives [] 1 Possible)
    (p' j) (f.up Possible j tt k)
held_if (cell.Known v) d i j P p p' l h f k =
    let r : HeldAt (cell.Known v) j P = subst (λ z. HeldAt z j P) l k in
    subst (λ z. MustCanBelow (cond (truth v) (gives [] 1 i) (p i)) (held z j p')) (sym l)
    (pick_both (truth v) (Unit {0}) (P j) (gives [] 1 i) (p i) (gives [] 1 j) (p' j)
    (λ _. code_up 1 i j h) (f.up i j h) r)
held_if (cell.Faulted o n) d i j P p p' l h f k =
    let r : HeldAt (cell.Faulted o n) j P = subst (λ z. HeldAt z j P) l k in
    subst (λ z. MustCanBelow (p i) (held z j p')) (sym l) (f.up i j h r)

pub same_emit_up : (s : ℕ) (e : Option Expression) (i j : Index) (E F : Env) → IndexBelow i j → EnvBelow E F →
    MustCanBelow (gives ((s, emitted e E) ∷ []) 0 i) (gives ((s, emitted e F) ∷ []) 0 j)
same_emit_up s None i j E F h g = gives_up _ _ 0 i j (keep (refl, refl) ended) (keep (refl, refl) ended) h
same_emit_up s (Some e) i j E F h g = let c = eval_up E F [] g e in gives_up _ _ 0 i j (keep (refl, c) ended)
    (keep (refl, c) ended) h

pub answered_same : (s : Option ℕ) (queue : List Item) (i j : Index) → IndexBelow i j → MustCanBelow
    (answered s queue i) (answered s queue j)
answered_same s (a ∷ queue) i j h = gives_up _ _ (answer_code a.last) i j (same_bag_up (answer_bag s a.value))
    (same_bag_down (answer_bag s a.value)) h
answered_same s [] i j h = code_up 1 i j h

possible_below : (i j : Index) → IndexBelow i j → j ≡ Possible → i ≡ Possible
possible_below Executed j h e = let x : Executed ≡ Possible = sym h ∙ e in cc
possible_below Possible j h e = refl

-- a sequence whose second part is asked for only where the first can end
pub sequence_at : (a a' : MustCan) (f f' : Index → MustCan) (P : Type 0) → MustCanBelow a a' → MustWithinCan
    a' → NothingSure (f Possible) → NothingSure (f' Possible) →
    (P → IndexBelow (is_end a.code) (is_end a'.code) → MustCanBelow (f (is_end a.code)) (f' (is_end a'.code)))
    → Pick (a'.codes 0) P (Unit {0}) → MustCanBelow (sequence a f) (sequence a' f')
sequence_at a a' f f' P h w q q' g k = at_end (a'.codes 0) refl k
  where
    le : IndexBelow (is_end a.code) (is_end a'.code)
    le = is_end_up a.code a'.code h.code

    at_end : (b : Bool) → a'.codes 0 ≡ b → Pick b P (Unit {0}) → MustCanBelow (sequence a f) (sequence a' f')
    at_end true e r =
        let n = g r le in
        record {
          must = sub_append h.must n.must;
          code = go_on_up a.code a'.code (f (is_end a.code)).code (f' (is_end a'.code)).code h.code n.code;
          can = sub_append h.can
              (cond_sub (a'.codes 0) (a.codes 0) (f' (is_end a'.code)).can (f (is_end a.code)).can (h.codes 0)
              n.can);
          codes = in_turn_mono a'.codes (f' (is_end a'.code)).codes a.codes (f (is_end a.code)).codes h.codes
              n.codes;
        }
    at_end false e r =
        let x' : is_end a'.code ≡ Possible = end_known a'.code a'.codes w.code e in
        let x : is_end a.code ≡ Possible = possible_below (is_end a.code) (is_end a'.code) le x' in
        let m : (f (is_end a.code)).must ≡ [] = ap (λ i. (f i).must) x ∙ q.must in
        let m' : (f' (is_end a'.code)).must ≡ [] = ap (λ i. (f' i).must) x' ∙ q'.must in
        let n : (f (is_end a.code)).code ≡ None = ap (λ i. (f i).code) x ∙ q.code in
        record {
          must = sub_append h.must
              (subst (λ z. Embeds (OnSignal CellBelow) z (f' (is_end a'.code)).must) (sym m)
              (nothing_sub (f' (is_end a'.code)).must));
          code = go_on_up a.code a'.code (f (is_end a.code)).code (f' (is_end a'.code)).code h.code
              (subst (λ z. CodeBelow z (f' (is_end a'.code)).code) (sym n) tt);
          can = sub_append h.can
              (subst (λ b. Embeds (OnSignal CellAbove) (cond b (f' (is_end a'.code)).can [])
              (cond (a.codes 0) (f (is_end a.code)).can [])) (sym e)
              (nothing_sub (cond (a.codes 0) (f (is_end a.code)).can [])));
          codes = λ c t.
              in_turn_mono a'.codes (λ c. false) a.codes (f (is_end a.code)).codes h.codes
              (λ c t. let x : false ≡ true = t in cc) c
              (no_turn (a'.codes 0) (f' (is_end a'.code)).codes c e t);
        }
      where
        no_turn : (b : Bool) (L : CodeSet) (c : ℕ) → b ≡ false → (without_end a'.codes c || (b && L c)) ≡ true
            → (without_end a'.codes c || (b && false)) ≡ true
        no_turn true L c e t = cc
        no_turn false L c e t = t

-- ---- a table at a standstill knows at least as much as the nested definition

pub flat_above : (T : Table) (τ : Cells) (p : Statement) (d l : ℕ) (t : Task) (i j : Index) (E F : Env) →
    IndexBelow i j → EnvBelow E F → Stands T τ p d l t j F → MustCanBelow (must_can T p t i E)
    (flat T τ p d l t j F)
flat_above T τ Nothing d l t i j E F h g k = code_up 0 i j h
flat_above T τ Pause d l Start i j E F h g k = code_up 1 i j h
flat_above T τ Pause d l (Resume m) i j E F h g k = code_up 0 i j h
flat_above T τ (Emit s e) d l t i j E F h g k = same_emit_up s e i j E F h g
flat_above T τ (If e p q) d l Start i j E F h g k = chosen_if (eval_of e E []) (eval_of e F []) i j
    (λ n. Stands T τ p d l Start n F) (λ n. Stands T τ q d l Start n F) (λ n. must_can T p Start n E)
    (λ n. must_can T q Start n E) (λ n. flat T τ p d l Start n F) (λ n. flat T τ q d l Start n F)
    (eval_up E F [] g e) h (record { up = λ m n le r. flat_above T τ p d l Start m n E F le g r })
    (record { up = λ m n le r. flat_above T τ q d l Start m n E F le g r }) k
flat_above T τ (If e p q) d l (Resume (First m)) i j E F h g k = flat_above T τ p d l (Resume m) i j E F h g k
flat_above T τ (If e p q) d l (Resume (Second m)) i j E F h g k = flat_above T τ q d l (Resume m) i j E F h g
    k
flat_above T τ (If e p q) d l (Resume _) i j E F h g k = code_up 0 i j h
flat_above T τ (Suspend e p) d l Start i j E F h g k = flat_above T τ p d l Start i j E F h g k
flat_above T τ (Suspend e p) d l (Resume (Inside m)) i j E F h g k = held_if (eval_of e E []) (eval_of e F [])
    i j (λ n. Stands T τ p d l (Resume m) n F) (λ n. must_can T p (Resume m) n E)
    (λ n. flat T τ p d l (Resume m) n F) (eval_up E F [] g e) h
    (record { up = λ x n le r. flat_above T τ p d l (Resume m) x n E F le g r }) k
flat_above T τ (Suspend e p) d l (Resume _) i j E F h g k = code_up 0 i j h
flat_above T τ (Seq p q) d l Start i j E F h g k = sequence_at (must_can T p Start i E)
    (flat T τ p d l Start j F) (λ n. must_can T q Start n E) (λ n. flat T τ q d l Start n F)
    (Stands T τ q d l Start (is_end (flat T τ p d l Start j F).code) F)
    (flat_above T τ p d l Start i j E F h g k.0) ((flat_fair T τ p d l Start F).within j)
    ((must_can_lawful T q Start).nothing E) ((flat_fair T τ q d l Start F).nothing)
    (λ r le. flat_above T τ q d l Start (is_end (must_can T p Start i E).code)
    (is_end (flat T τ p d l Start j F).code) E F le g r) k.1
flat_above T τ (Seq p q) d l (Resume (First m)) i j E F h g k = sequence_at (must_can T p (Resume m) i E)
    (flat T τ p d l (Resume m) j F) (λ n. must_can T q Start n E) (λ n. flat T τ q d l Start n F)
    (Stands T τ q d l Start (is_end (flat T τ p d l (Resume m) j F).code) F)
    (flat_above T τ p d l (Resume m) i j E F h g k.0) ((flat_fair T τ p d l (Resume m) F).within j)
    ((must_can_lawful T q Start).nothing E) ((flat_fair T τ q d l Start F).nothing)
    (λ r le. flat_above T τ q d l Start (is_end (must_can T p (Resume m) i E).code)
    (is_end (flat T τ p d l (Resume m) j F).code) E F le g r) k.1
flat_above T τ (Seq p q) d l (Resume (Second m)) i j E F h g k = flat_above T τ q d l (Resume m) i j E F h g k
flat_above T τ (Seq p q) d l (Resume _) i j E F h g k = code_up 0 i j h
flat_above T τ (Par p q) d l Start i j E F h g k = parallel_up (must_can T p Start i E)
    (must_can T q Start i E) (flat T τ p d l Start j F) (flat T τ q d l Start j F)
    (flat_above T τ p d l Start i j E F h g k.0) (flat_above T τ q d l Start i j E F h g k.1)
flat_above T τ (Par p q) d l (Resume (First m)) i j E F h g k = parallel_up (must_can T p (Resume m) i E)
    (gives [] 0 i) (flat T τ p d l (Resume m) j F) (gives [] 0 j)
    (flat_above T τ p d l (Resume m) i j E F h g k) (code_up 0 i j h)
flat_above T τ (Par p q) d l (Resume (Second m)) i j E F h g k = parallel_up (gives [] 0 i)
    (must_can T q (Resume m) i E) (gives [] 0 j) (flat T τ q d l (Resume m) j F) (code_up 0 i j h)
    (flat_above T τ q d l (Resume m) i j E F h g k)
flat_above T τ (Par p q) d l (Resume (Both m n)) i j E F h g k = parallel_up (must_can T p (Resume m) i E)
    (must_can T q (Resume n) i E) (flat T τ p d l (Resume m) j F) (flat T τ q d l (Resume n) j F)
    (flat_above T τ p d l (Resume m) i j E F h g k.0) (flat_above T τ q d l (Resume n) i j E F h g k.1)
flat_above T τ (Par p q) d l (Resume _) i j E F h g k = code_up 0 i j h
flat_above T τ (Loop p) d l Start i j E F h g k = flat_above T τ p (suc d) l Start i j E F h g k
flat_above T τ (Loop p) d l (Resume (Inside m)) i j E F h g k = sequence_at (must_can T p (Resume m) i E)
    (flat T τ p (suc d) l (Resume m) j F) (λ n. must_can T p Start n E)
    (λ n. flat T τ p (suc d) (suc d) Start n F)
    (Stands T τ p (suc d) (suc d) Start (is_end (flat T τ p (suc d) l (Resume m) j F).code) F)
    (flat_above T τ p (suc d) l (Resume m) i j E F h g k.0)
    ((flat_fair T τ p (suc d) l (Resume m) F).within j) ((must_can_lawful T p Start).nothing E)
    ((flat_fair T τ p (suc d) (suc d) Start F).nothing)
    (λ r le. flat_above T τ p (suc d) (suc d) Start (is_end (must_can T p (Resume m) i E).code)
    (is_end (flat T τ p (suc d) l (Resume m) j F).code) E F le g r) k.1
flat_above T τ (Loop p) d l (Resume _) i j E F h g k = code_up 0 i j h
flat_above T τ (Trap p) d l Start i j E F h g k = trapped_up (must_can T p Start i E)
    (flat T τ p d l Start j F) (flat_above T τ p d l Start i j E F h g k)
flat_above T τ (Trap p) d l (Resume (Inside m)) i j E F h g k = trapped_up (must_can T p (Resume m) i E)
    (flat T τ p d l (Resume m) j F) (flat_above T τ p d l (Resume m) i j E F h g k)
flat_above T τ (Trap p) d l (Resume _) i j E F h g k = code_up 0 i j h
flat_above T τ (Exit x) d l t i j E F h g k = code_up (x + 2) i j h
flat_above T τ (Local s p) d l Start i j E F h g k =
    let c : SigCell = cell_with (τ s l) false (T.first s) in
    let q : Env → MustCan = λ G. must_can T p Start i G in
    let body : (x : SigCell) → SignalBelow x c → MustCanBelow (q (put E s x))
    (flat T τ p d l Start j (put F s c)) = λ x le. flat_above T τ p d l Start i j (put E s x) (put F s c)
    h (put_up E F s x c g le) k.1 in
    let up : (x : SigCell) → x.pre ≡ false → x.preval ≡ (T.first s) → SignalBelow x c → SignalBelow
    (round T s q E x) c = λ x pb pv le. subst (SignalBelow (round T s q E x)) k.0
    (raised_up T s x c (q (put E s x)) (flat T τ p d l Start j (put F s c)) pb pv (body x le)
    ((flat_fair T τ p d l Start (put F s c)).within j)) in
    let c0 : SigCell = unsolved false (T.first s) in
    let le0 : SignalBelow c0 c = record { status = tt; value = tt; pre = refl; preval = refl } in
    let le1 = up c0 refl refl le0 in
    let le2 = up (round T s q E c0) refl refl le1 in
    hide_up s (q (put E s (solve T s q E c0))) (flat T τ p d l Start j (put F s c))
    (body (solve T s q E c0) le2)
flat_above T τ (Local s p) d l (Resume (Scope m b v)) i j E F h g k =
    let c : SigCell = cell_with (τ s l) b v in
    let q : Env → MustCan = λ G. must_can T p (Resume m) i G in
    let body : (x : SigCell) → SignalBelow x c → MustCanBelow (q (put E s x))
    (flat T τ p d l (Resume m) j (put F s c)) = λ x le. flat_above T τ p d l (Resume m) i j (put E s x)
    (put F s c) h (put_up E F s x c g le) k.1 in
    let up : (x : SigCell) → x.pre ≡ b → x.preval ≡ v → SignalBelow x c → SignalBelow (round T s q E x) c = λ
    x pb pv le. subst (SignalBelow (round T s q E x)) k.0
    (raised_up T s x c (q (put E s x)) (flat T τ p d l (Resume m) j (put F s c)) pb pv (body x le)
    ((flat_fair T τ p d l (Resume m) (put F s c)).within j)) in
    let c0 : SigCell = unsolved b v in
    let le0 : SignalBelow c0 c = record { status = tt; value = tt; pre = refl; preval = refl } in
    let le1 = up c0 refl refl le0 in
    let le2 = up (round T s q E c0) refl refl le1 in
    hide_up s (q (put E s (solve T s q E c0))) (flat T τ p d l (Resume m) j (put F s c))
    (body (solve T s q E c0) le2)
flat_above T τ (Local s p) d l (Resume _) i j E F h g k = code_up 0 i j h
flat_above T τ (Async x) d l Start i j E F h g k = code_up 1 i j h
flat_above T τ (Async x) d l (Resume (AtAsync id args queue suspended)) i j E F h g k = answered_same
    (T.target x) queue i j h
flat_above T τ (Async x) d l (Resume _) i j E F h g k = code_up 0 i j h

-- ---- a table within the nested definition knows at most as much

pub flat_below : (T : Table) (τ : Cells) (p : Statement) (d l : ℕ) (t : Task) (i j : Index) (E F : Env) →
    IndexBelow i j → EnvBelow E F → Bounded T τ p d l t j F → MustCanBelow (flat T τ p d l t i E)
    (must_can T p t j F)
flat_below T τ Nothing d l t i j E F h g k = code_up 0 i j h
flat_below T τ Pause d l Start i j E F h g k = code_up 1 i j h
flat_below T τ Pause d l (Resume m) i j E F h g k = code_up 0 i j h
flat_below T τ (Emit s e) d l t i j E F h g k = same_emit_up s e i j E F h g
flat_below T τ (If e p q) d l Start i j E F h g k = chosen_if (eval_of e E []) (eval_of e F []) i j
    (λ n. Bounded T τ p d l Start n F) (λ n. Bounded T τ q d l Start n F) (λ n. flat T τ p d l Start n E)
    (λ n. flat T τ q d l Start n E) (λ n. must_can T p Start n F) (λ n. must_can T q Start n F)
    (eval_up E F [] g e) h (record { up = λ m n le r. flat_below T τ p d l Start m n E F le g r })
    (record { up = λ m n le r. flat_below T τ q d l Start m n E F le g r }) k
flat_below T τ (If e p q) d l (Resume (First m)) i j E F h g k = flat_below T τ p d l (Resume m) i j E F h g k
flat_below T τ (If e p q) d l (Resume (Second m)) i j E F h g k = flat_below T τ q d l (Resume m) i j E F h g
    k
flat_below T τ (If e p q) d l (Resume _) i j E F h g k = code_up 0 i j h
flat_below T τ (Suspend e p) d l Start i j E F h g k = flat_below T τ p d l Start i j E F h g k
flat_below T τ (Suspend e p) d l (Resume (Inside m)) i j E F h g k = held_if (eval_of e E []) (eval_of e F [])
    i j (λ n. Bounded T τ p d l (Resume m) n F) (λ n. flat T τ p d l (Resume m) n E)
    (λ n. must_can T p (Resume m) n F) (eval_up E F [] g e) h
    (record { up = λ x n le r. flat_below T τ p d l (Resume m) x n E F le g r }) k
flat_below T τ (Suspend e p) d l (Resume _) i j E F h g k = code_up 0 i j h
flat_below T τ (Seq p q) d l Start i j E F h g k = sequence_at (flat T τ p d l Start i E)
    (must_can T p Start j F) (λ n. flat T τ q d l Start n E) (λ n. must_can T q Start n F)
    (Bounded T τ q d l Start (is_end (must_can T p Start j F).code) F)
    (flat_below T τ p d l Start i j E F h g k.0) ((must_can_lawful T p Start).within j F)
    ((flat_fair T τ q d l Start E).nothing) ((must_can_lawful T q Start).nothing F)
    (λ r le. flat_below T τ q d l Start (is_end (flat T τ p d l Start i E).code)
    (is_end (must_can T p Start j F).code) E F le g r) k.1
flat_below T τ (Seq p q) d l (Resume (First m)) i j E F h g k = sequence_at (flat T τ p d l (Resume m) i E)
    (must_can T p (Resume m) j F) (λ n. flat T τ q d l Start n E) (λ n. must_can T q Start n F)
    (Bounded T τ q d l Start (is_end (must_can T p (Resume m) j F).code) F)
    (flat_below T τ p d l (Resume m) i j E F h g k.0) ((must_can_lawful T p (Resume m)).within j F)
    ((flat_fair T τ q d l Start E).nothing) ((must_can_lawful T q Start).nothing F)
    (λ r le. flat_below T τ q d l Start (is_end (flat T τ p d l (Resume m) i E).code)
    (is_end (must_can T p (Resume m) j F).code) E F le g r) k.1
flat_below T τ (Seq p q) d l (Resume (Second m)) i j E F h g k = flat_below T τ q d l (Resume m) i j E F h g k
flat_below T τ (Seq p q) d l (Resume _) i j E F h g k = code_up 0 i j h
flat_below T τ (Par p q) d l Start i j E F h g k = parallel_up (flat T τ p d l Start i E)
    (flat T τ q d l Start i E) (must_can T p Start j F) (must_can T q Start j F)
    (flat_below T τ p d l Start i j E F h g k.0) (flat_below T τ q d l Start i j E F h g k.1)
flat_below T τ (Par p q) d l (Resume (First m)) i j E F h g k = parallel_up (flat T τ p d l (Resume m) i E)
    (gives [] 0 i) (must_can T p (Resume m) j F) (gives [] 0 j)
    (flat_below T τ p d l (Resume m) i j E F h g k) (code_up 0 i j h)
flat_below T τ (Par p q) d l (Resume (Second m)) i j E F h g k = parallel_up (gives [] 0 i)
    (flat T τ q d l (Resume m) i E) (gives [] 0 j) (must_can T q (Resume m) j F) (code_up 0 i j h)
    (flat_below T τ q d l (Resume m) i j E F h g k)
flat_below T τ (Par p q) d l (Resume (Both m n)) i j E F h g k = parallel_up (flat T τ p d l (Resume m) i E)
    (flat T τ q d l (Resume n) i E) (must_can T p (Resume m) j F) (must_can T q (Resume n) j F)
    (flat_below T τ p d l (Resume m) i j E F h g k.0) (flat_below T τ q d l (Resume n) i j E F h g k.1)
flat_below T τ (Par p q) d l (Resume _) i j E F h g k = code_up 0 i j h
flat_below T τ (Loop p) d l Start i j E F h g k = flat_below T τ p (suc d) l Start i j E F h g k
flat_below T τ (Loop p) d l (Resume (Inside m)) i j E F h g k = sequence_at
    (flat T τ p (suc d) l (Resume m) i E) (must_can T p (Resume m) j F)
    (λ n. flat T τ p (suc d) (suc d) Start n E) (λ n. must_can T p Start n F)
    (Bounded T τ p (suc d) (suc d) Start (is_end (must_can T p (Resume m) j F).code) F)
    (flat_below T τ p (suc d) l (Resume m) i j E F h g k.0) ((must_can_lawful T p (Resume m)).within j F)
    ((flat_fair T τ p (suc d) (suc d) Start E).nothing) ((must_can_lawful T p Start).nothing F)
    (λ r le. flat_below T τ p (suc d) (suc d) Start (is_end (flat T τ p (suc d) l (Resume m) i E).code)
    (is_end (must_can T p (Resume m) j F).code) E F le g r) k.1
flat_below T τ (Loop p) d l (Resume _) i j E F h g k = code_up 0 i j h
flat_below T τ (Trap p) d l Start i j E F h g k = trapped_up (flat T τ p d l Start i E)
    (must_can T p Start j F) (flat_below T τ p d l Start i j E F h g k)
flat_below T τ (Trap p) d l (Resume (Inside m)) i j E F h g k = trapped_up (flat T τ p d l (Resume m) i E)
    (must_can T p (Resume m) j F) (flat_below T τ p d l (Resume m) i j E F h g k)
flat_below T τ (Trap p) d l (Resume _) i j E F h g k = code_up 0 i j h
flat_below T τ (Exit x) d l t i j E F h g k = code_up (x + 2) i j h
flat_below T τ (Local s p) d l Start i j E F h g k =
    let c : SigCell = cell_with (τ s l) false (T.first s) in
    let q : Env → MustCan = must_can T p Start j in
    let x : SigCell = solve T s q F (unsolved false (T.first s)) in
    hide_up s (flat T τ p d l Start i (put E s c)) (q (put F s x))
    (flat_below T τ p d l Start i j (put E s c) (put F s x) h (put_up E F s c x g k.0) k.1)
flat_below T τ (Local s p) d l (Resume (Scope m b v)) i j E F h g k =
    let c : SigCell = cell_with (τ s l) b v in
    let q : Env → MustCan = must_can T p (Resume m) j in
    let x : SigCell = solve T s q F (unsolved b v) in
    hide_up s (flat T τ p d l (Resume m) i (put E s c)) (q (put F s x))
    (flat_below T τ p d l (Resume m) i j (put E s c) (put F s x) h (put_up E F s c x g k.0) k.1)
flat_below T τ (Local s p) d l (Resume _) i j E F h g k = code_up 0 i j h
flat_below T τ (Async x) d l Start i j E F h g k = code_up 1 i j h
flat_below T τ (Async x) d l (Resume (AtAsync id args queue suspended)) i j E F h g k = answered_same
    (T.target x) queue i j h
flat_below T τ (Async x) d l (Resume _) i j E F h g k = code_up 0 i j h
