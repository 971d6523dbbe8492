-- Async statements in a walk.
use Rattle.std.proofs.Common.{◌≡◌, refl, sym, ap, ◌∙◌, subst, ℕ, true, false, cond, Option, Some, None, List, []}
use Rattle.std.proofs.Common.{◌∷◌, ◌++◌, map, zip, slice_get, append-nil, append_assoc, zero, suc, Vec, Global, ◌⊎◌, inl, inr}
use Rattle.std.proofs.lemmas.List.{map-append}
use Rattle.hh_base.specs.declared.item.Item.{Item}
use Rattle.hh_base.specs.declared.value.Kind.{Kind}
use Rattle.hh_base.specs.declared.value.Value.{Value}
use Rattle.host_expr.specs.declared.cell.Cell.{Cell}
use Rattle.host_expr.specs.Expression.{Expression, expression_of}
use Rattle.hh_term.specs.declared.program.Site.{Site}
use Rattle.hh_term.specs.Kernel.{Kernel, AsyncSite, arguments_at}
use Rattle.hh_term.specs.Views.{site_of}
use Rattle.hh_term.specs.Selection.{AtAsync}
use Rattle.hh_term.specs.MustCan.{Table, all_known, answer_bag}
use Rattle.hh_term.specs.Step.{add_faults, answer_step, argument_value, async_step, start_async, resume_async}
use Rattle.hh_term.specs.Touches.{Touch}
use Rattle.last_walk.specs.declared.touch.Touch.{Touch as ATouch}
use Rattle.last_walk.specs.declared.completion.Completion.{Completion}
use Rattle.last_walk.specs.declared.last_pass.LastPass.{LastPass}
use Rattle.last_walk.specs.LastWalk.{touch_of, nothing_touched, selection_at, rest_of, fault_in, faults_in, Noted}
use Rattle.last_walk.specs.LastWalk.{Done, Did}
use Rattle.last_walk.proofs.Noting.{emitted_none, noted_both}
use Rattle.last_walk.proofs.Scoping.{all_faults}

-- a touch is noted
pub noted_touch : (T : Table) (b : LastPass) (ts : Vec ATouch Global) (u : ATouch) (t : Touch) → ts.items ≡
    b.touches.items ++ u ∷ [] → touch_of u ≡ t → Noted T [] (t ∷ []) [] [] b (record b { touches = ts })
noted_touch T b ts u t e f = record {
  signals = refl;
  args = refl;
  emitted = emitted_none T b.emitted.items;
  touches = ap (map touch_of) e ∙ map-append touch_of b.touches.items (u ∷ []) ∙ ap
      (λ z. map touch_of b.touches.items ++ z ∷ []) f;
  fault = refl;
  doubled = refl;
}

module _ (T : Table) (n id : ℕ) (args : List Value) (x : Completion) (b0 b1 b2 : LastPass) where
  pub used_last : (q : List Item) (a : Item) → slice_get q 0 ≡ Some a → a.last ≡ true → Noted T
      (answer_bag (T.target n) a.value) [] [] [] b0 b1 → Noted T []
      (record (nothing_touched n id) { ended = true; resumed = true } ∷ []) [] [] b1 b2 → x.code ≡ 0 → selection_at
      x.next ≡ None → Done T (resume_async T n id args q) x b0 b2
  used_last [] a e l h g c m = cc
  used_last (y ∷ q) a e l h g c m =
      let same : a ≡ y = cc in
      let last : true ≡ y.last = sym l ∙ ap (λ z. z.last) same in
      subst (λ v. Done T (record (answer_step T n id args v q) { bag = answer_bag (T.target n) y.value }) x b0 b2) last
      (record {
        code = c;
        next = m;
        noted = subst (λ z. Noted T (answer_bag (T.target n) z.value)
            (record (nothing_touched n id) { ended = true; resumed = true } ∷ []) [] [] b0 b2) same
            (subst (λ z. Noted T z (record (nothing_touched n id) { ended = true; resumed = true } ∷ []) [] [] b0 b2)
            (append-nil (answer_bag (T.target n) a.value))
            (noted_both T (answer_bag (T.target n) a.value) [] []
            (record (nothing_touched n id) { ended = true; resumed = true } ∷ []) [] [] [] [] b0 b1 b2 h g));
      })

  pub used_part : (q : List Item) (a : Item) → slice_get q 0 ≡ Some a → a.last ≡ false → Noted T
      (answer_bag (T.target n) a.value) [] [] [] b0 b1 → Noted T []
      (record (nothing_touched n id) { used = true; resumed = true; runs_after = true } ∷ []) [] [] b1 b2 → x.code ≡
      1 → selection_at x.next ≡ Some (AtAsync id args (rest_of q) false) → Done T (resume_async T n id args q) x b0 b2
  used_part [] a e l h g c m = cc
  used_part (y ∷ q) a e l h g c m =
      let same : a ≡ y = cc in
      let last : false ≡ y.last = sym l ∙ ap (λ z. z.last) same in
      subst (λ v. Done T (record (answer_step T n id args v q) { bag = answer_bag (T.target n) y.value }) x b0 b2) last
      (record {
        code = c;
        next = m;
        noted = subst (λ z. Noted T (answer_bag (T.target n) z.value)
            (record (nothing_touched n id) { used = true; resumed = true; runs_after = true } ∷ []) [] [] b0 b2) same
            (subst (λ z. Noted T z
            (record (nothing_touched n id) { used = true; resumed = true; runs_after = true } ∷ []) [] [] b0 b2)
            (append-nil (answer_bag (T.target n) a.value))
            (noted_both T (answer_bag (T.target n) a.value) [] []
            (record (nothing_touched n id) { used = true; resumed = true; runs_after = true } ∷ []) [] [] [] [] b0 b1
            b2 h g));
      })

pub resumed : (T : Table) (n id : ℕ) (args : List Value) (x : Completion) (b0 b1 : LastPass) (q : List Item) →
    slice_get q 0 ≡ None → Noted T [] (record (nothing_touched n id) { resumed = true; runs_after = true } ∷ []) [] []
    b0 b1 → x.code ≡ 1 → selection_at x.next ≡ Some (AtAsync id args [] false) → Done T (resume_async T n id args q) x
    b0 b1
resumed T n id args x b0 b1 [] e h c m = record { code = c; next = m; noted = h }
resumed T n id args x b0 b1 (y ∷ q) e h c m = cc

module _ (T : Table) (n : ℕ) (cs : List Cell) where
  abbrev pub args : List Value
  args = map argument_value (zip (T.params n) cs)

  pub started_open : (b0 b1 : LastPass) → all_known cs ≡ false → Did T (async_step T n cs) None b0 b1
  started_open b0 b1 e = subst (λ b. Did T (cond b (Some (add_faults cs (start_async n args))) None) None b0 b1) (sym e)
      tt

  pub started : (x : Completion) (b0 b1 b2 : LastPass) → all_known cs ≡ true → Noted T [] [] (faults_in cs) [] b0 b1 →
      Noted T [] (record (nothing_touched n 0) { started = Some args; runs_after = true } ∷ []) [] [] b1 b2 → x.code ≡
      1 → selection_at x.next ≡ Some (AtAsync 0 args [] false) → Did T (async_step T n cs) (Some x) b0 b2
  started x b0 b1 b2 e h g c m = subst (λ b. Did T (cond b (Some (add_faults cs (start_async n args))) None) (Some x)
      b0 b2) (sym e)
      (subst (λ a. Done T a x b0 b2) (sym (all_faults cs (start_async n args)))
      (record {
        code = c;
        next = m;
        noted = noted_both T [] [] [] (record (nothing_touched n 0) { started = Some args; runs_after = true } ∷ [])
            (faults_in cs) [] [] [] b0 b1 b2 h g;
      }))

-- the faults of one cell more
pub one_fault_more : (T : Table) (cs : List Cell) (c : Cell) (b0 b1 b2 : LastPass) → Noted T [] [] (faults_in cs) [] b0
    b1 → Noted T [] [] (fault_in c) [] b1 b2 → Noted T [] [] (faults_in (cs ++ c ∷ [])) [] b0 b2
one_fault_more T cs c b0 b1 b2 h g = subst (λ z. Noted T [] [] z [] b0 b2) (sym (faults_end cs))
    (noted_both T [] [] [] [] (faults_in cs) (fault_in c) [] [] b0 b1 b2 h g)
  where
    faults_end : (cs : List Cell) → faults_in (cs ++ c ∷ []) ≡ faults_in cs ++ fault_in c
    faults_end [] = append-nil (fault_in c)
    faults_end (d ∷ cs) = ap (λ z. fault_in d ++ z) (faults_end cs) ∙ sym
        (append_assoc (fault_in d) (faults_in cs) (fault_in c))

-- ---- what a program says of a site

abbrev mapped : {A B : Type 0} → (A → B) → Option A → Option B
mapped f (Some a) = Some (f a)
mapped f None = None

get_mapped : {A B : Type 0} (f : A → B) (xs : List A) (n : ℕ) → slice_get (map f xs) n ≡ mapped f (slice_get xs n)
get_mapped f [] n = refl
get_mapped f (x ∷ xs) zero = refl
get_mapped f (x ∷ xs) (suc n) = get_mapped f xs n

abbrev args_in : Option AsyncSite → List Expression
args_in o = (elim o [ Some a ↦ a.args | None ↦ [] ])

pub args_found : (K : Kernel) (sites : List Site) (n : ℕ) (d : Site) → map site_of sites ≡ K.sites → slice_get sites n ≡
    Some d → arguments_at K n ≡ map expression_of d.args
args_found K sites n d e f = ap (λ z. args_in (slice_get z n)) (sym e) ∙ ap args_in
    (get_mapped site_of sites n ∙ ap (mapped site_of) f)

pub no_args : (K : Kernel) (sites : List Site) (n : ℕ) → map site_of sites ≡ K.sites → slice_get sites n ≡ None →
    arguments_at K n ≡ []
no_args K sites n e f = ap (λ z. args_in (slice_get z n)) (sym e) ∙ ap args_in
    (get_mapped site_of sites n ∙ ap (mapped site_of) f)

pub map_twice : {A B C : Type 0} (f : A → B) (g : B → C) (xs : List A) → map (λ x. g (f x)) xs ≡ map g (map f xs)
map_twice f g [] = refl
map_twice f g (x ∷ xs) = ap (λ z. g (f x) ∷ z) (map_twice f g xs)

pub no_pairs : (ks : List Kind) (cs : List Cell) → (ks ≡ []) ⊎ (cs ≡ []) → map argument_value (zip ks cs) ≡ []
no_pairs [] cs e = refl
no_pairs (k ∷ ks) [] e = refl
no_pairs (k ∷ ks) (c ∷ cs) (inl e) = cc
no_pairs (k ∷ ks) (c ∷ cs) (inr e) = cc
