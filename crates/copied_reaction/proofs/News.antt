-- The new instances of a step stand in the order of their sites.
use Rattle.std.proofs.Common.{◌≡◌, ℕ, zero, suc, ◌+◌, ◌≤◌, Bool, true, false, cond, eqb, max, Option, Some}
use Rattle.std.proofs.Common.{None, List}
use Rattle.std.proofs.Common.{[], ◌∷◌, ◌++◌, map, refl, sym, ap, subst, ◌∙◌, arith, eqb-true}
use Rattle.std.specs.Prelude.{◌&&◌, zip}
use Rattle.std.specs.List.{AllByRecursion, filter, range_with_len}
use Rattle.std.proofs.lemmas.List.{map-append}
use Rattle.std.proofs.lemmas.List.Elements.{filter-append}
use Rattle.hh_base.specs.declared.value.Value.{Value}
use Rattle.hh_base.specs.declared.item.Item.{Item}
use Rattle.host_expr.specs.declared.cell.Cell.{Cell}
use Rattle.host_expr.specs.declared.cell.Cell.TheVariants as cell
use Rattle.host_expr.specs.declared.cell.SigCell.{SigCell}
use Rattle.host_expr.specs.Environment.{Env, is_known, is_decided, unsolved, put}
use Rattle.host_expr.specs.Evaluation.{eval_of, truth}
use Rattle.hh_term.specs.Statement.{Statement, Nothing, Pause, Emit, If, Suspend, Seq, Par, Loop, Trap}
use Rattle.hh_term.specs.Statement.{Exit, Local, Async}
use Rattle.hh_term.specs.Selection.{Selection, AtAsync, First, Second, Both, Inside, Scope, Task, Start}
use Rattle.hh_term.specs.Selection.{Resume}
use Rattle.hh_term.specs.Scopes.{sites_of}
use Rattle.hh_term.specs.MustCan.{Table, MustCan, Executed, must_can, solve, emitted, all_known, lower}
use Rattle.hh_term.specs.Knows.{Embeds, ended, keep, skip}
use Rattle.hh_term.specs.Touches.{Touch, stopped, held_mark, held_touches, new_id}
use Rattle.hh_term.specs.Step.{Stepped, ◌>>=◌, completes, rests, wrapped, wrap, with_fault, joined}
use Rattle.hh_term.specs.Step.{both_marks, beside}
use Rattle.hh_term.specs.Step.{trap_step, on_test, emit_step, then_start, leave, scope_mark, local_step}
use Rattle.hh_term.specs.Step.{add_faults}
use Rattle.hh_term.specs.Step.{argument_value, start_async, async_step, answer_step, resume_async, step}
use Rattle.hh_term.proofs.Embedding.{nothing_sub, sub_append, sub_left, sub_right}
use Rattle.loop_copy.proofs.Lists.{all_range}
use Rattle.copied_reaction.specs.Reacting.{is_new}

abbrev pub site_in : Touch → ℕ
site_in t = t.site

abbrev pub new_sites : List Touch → List ℕ
new_sites ts = map site_in (filter is_new ts)

abbrev Within : List ℕ → List ℕ → Type 0
Within = Embeds (λ x y. x ≡ y)

-- new instances are of these sites, in this order, and there are none where the code is not 1
pub record News (sites : List ℕ) (a : Stepped) : Type 0 where
  pub rise : Within (new_sites a.touches) sites
  pub none : eqb a.code 1 ≡ false → new_sites a.touches ≡ []

abbrev pub OnStep : (Stepped → Type 0) → Option Stepped → Type 0
OnStep P (Some a) = P a
OnStep P None = Unit {0}

abbrev HasNews : List ℕ → Option Stepped → Type 0
HasNews sites = OnStep (News sites)

-- ---- lists of touches

new_append : (xs ys : List Touch) → new_sites (xs ++ ys) ≡ new_sites xs ++ new_sites ys
new_append xs ys = ap (map site_in) (filter-append is_new xs ys)
    ∙ map-append site_in (filter is_new xs) (filter is_new ys)

never_new : (o : Option (List Value)) → new_id o false ≡ false
never_new None = refl
never_new (Some args) = refl

no_head : (b : Bool) (t : Touch) (ts : List Touch) → b ≡ false → map site_in ts ≡ []
    → map site_in (cond b (t ∷ ts) ts) ≡ []
no_head true t ts e h = absurd (let no : ⊥ = cc in no)
no_head false t ts e h = h

stopped_new : (ts : List Touch) → new_sites (map stopped ts) ≡ []
stopped_new [] = refl
stopped_new (t ∷ ts) =
    no_head (new_id t.started false) (stopped t) (filter is_new (map stopped ts)) (never_new t.started)
    (stopped_new ts)

held_new : (p : Statement) (m : Selection) → new_sites (held_touches p m) ≡ []
held_new (If e p q) (First m) = held_new p m
held_new (If e p q) (Second m) = held_new q m
held_new (Suspend e p) (Inside m) = held_new p m
held_new (Seq p q) (First m) = held_new p m
held_new (Seq p q) (Second m) = held_new q m
held_new (Par p q) (First m) = held_new p m
held_new (Par p q) (Second m) = held_new q m
held_new (Par p q) (Both m n) =
    new_append (held_touches p m) (held_touches q n) ∙ (λ i. held_new p m i ++ held_new q n i)
held_new (Loop p) (Inside m) = held_new p m
held_new (Trap p) (Inside m) = held_new p m
held_new (Local s p) (Scope m b v) = held_new p m
held_new (Async n) (AtAsync id args queue suspended) = refl
held_new _ m = refl

-- ---- combinators

no_news : (sites : List ℕ) (a : Stepped) → new_sites a.touches ≡ [] → News sites a
no_news sites a h =
    record { rise = subst (λ xs. Within xs sites) (sym h) (nothing_sub sites); none = λ e. h }

news_wrap : (sites : List ℕ) (f : Selection → Selection) (o : Option Stepped) → HasNews sites o
    → HasNews sites (wrap f o)
news_wrap sites f None h = tt
news_wrap sites f (Some a) h = record { rise = h.rise; none = h.none }

-- of a statement in which another one stands
news_within : (few many : List ℕ) → ((xs : List ℕ) → Within xs few → Within xs many) → (o : Option Stepped)
    → HasNews few o → HasNews many o
news_within few many f None h = tt
news_within few many f (Some a) h = record { rise = f (new_sites a.touches) h.rise; none = h.none }

news_fault : (sites : List ℕ) (c : Cell) (a : Stepped) → News sites a → News sites (with_fault c a)
news_fault sites cell.Unknown a h = h
news_fault sites (cell.Known v) a h = h
news_fault sites (cell.Faulted o k) a h = record { rise = h.rise; none = h.none }

news_test : (sites : List ℕ) (c : Cell) (P Q : Option Stepped) → HasNews sites P → HasNews sites Q
    → HasNews sites (on_test c P Q)
news_test sites cell.Unknown P Q h k = tt
news_test sites (cell.Known v) P Q h k = by_truth (truth v)
  where
    by_truth : (b : Bool) → HasNews sites (cond b P Q)
    by_truth true = h
    by_truth false = k
news_test sites (cell.Faulted o l) P None h k = tt
news_test sites (cell.Faulted o l) P (Some a) h k = news_fault sites (cell.Faulted o l) a k

not_one : (n : ℕ) → eqb n 0 ≡ true → eqb n 1 ≡ false
not_one n e = subst (λ k. eqb k 1 ≡ false) (sym (eqb-true n 0 e)) refl

news_joined : (few many : List ℕ) (a b : Stepped) → eqb a.code 0 ≡ true → News few a → News many b
    → News many (joined a b)
news_joined few many a b e h k =
    let none = h.none (not_one a.code e) in
    let same : new_sites (a.touches ++ b.touches) ≡ new_sites b.touches
    = new_append a.touches b.touches ∙ ap (λ xs. xs ++ new_sites b.touches) none in
    record { rise = subst (λ xs. Within xs many) (sym same) k.rise; none = λ i. same ∙ k.none i }

news_then : (sites : List ℕ) (f g : Selection → Selection) (P Q : Option Stepped) → HasNews sites P
    → HasNews sites Q
    → HasNews sites (then_start f g P Q)
news_then sites f g None Q h k = tt
news_then sites f g (Some a) Q h k = at_test (eqb a.code 0) refl Q k
  where
    at_test : (t : Bool) → eqb a.code 0 ≡ t → (Q : Option Stepped) → HasNews sites Q
        → HasNews sites (cond t (Q >>= (λ b. Some (joined a (wrapped g b)))) (Some (wrapped f a)))
    at_test true e None k = tt
    at_test true e (Some b) k =
        news_joined sites sites a (wrapped g b) e h (record { rise = k.rise; none = k.none })
    at_test false e Q k = record { rise = h.rise; none = h.none }

news_both : (xs ys : List ℕ) (a b : Stepped) → News xs a → News ys b → News (xs ++ ys) (beside a b)
news_both xs ys a b h k = at_test (eqb (max a.code b.code) 1) refl
  where
    c : Stepped
    c = record (joined a b) { code = max a.code b.code; next = both_marks a.next b.next }

    at_test : (t : Bool) → eqb (max a.code b.code) 1 ≡ t
        → News (xs ++ ys) (cond t c (record c { next = None; touches = map stopped c.touches }))
    at_test true e =
        record {
          rise = subst (λ zs. Within zs (xs ++ ys)) (sym (new_append a.touches b.touches))
              (sub_append h.rise k.rise);
          none = λ i. absurd (let no : ⊥ = cc in no);
        }
    at_test false e =
        no_news (xs ++ ys) (record c { next = None; touches = map stopped c.touches })
        (stopped_new (a.touches ++ b.touches))

news_beside : (xs ys : List ℕ) (P Q : Option Stepped) → HasNews xs P → HasNews ys Q
    → HasNews (xs ++ ys) (P >>= (λ a. Q >>= (λ b. Some (beside a b))))
news_beside xs ys None Q h k = tt
news_beside xs ys (Some a) None h k = tt
news_beside xs ys (Some a) (Some b) h k = news_both xs ys a b h k

lower_one : (n : ℕ) → eqb (lower n) 1 ≡ false → eqb n 1 ≡ false
lower_one zero e = refl
lower_one (suc zero) e = e
lower_one (suc (suc n)) e = at_test (eqb (suc (suc n)) 1) refl
  where
    at_test : (b : Bool) → eqb (suc (suc n)) 1 ≡ b → b ≡ false
    at_test false i = refl
    at_test true i = absurd (let no : ⊥ = (let same = eqb-true (suc (suc n)) 1 i in omega (arith, same)) in
        no)

news_trap : (sites : List ℕ) (o : Option Stepped) → HasNews sites o
    → HasNews sites (o >>= (λ a. Some (trap_step a)))
news_trap sites None h = tt
news_trap sites (Some a) h = record { rise = h.rise; none = λ e. h.none (lower_one a.code e) }

news_local : (sites : List ℕ) (T : Table) (s : ℕ) (p : Env → MustCan) (q : Env → Option Stepped) (E : Env)
    (c : SigCell)
    → ((F : Env) → HasNews sites (q F)) → HasNews sites (local_step T s p q E c)
news_local sites T s p q E c h = at_test (is_decided d.status && is_known d.value)
  where
    d : SigCell
    d = solve T s p E c

    left : (o : Option Stepped) → HasNews sites o
        → HasNews sites (o >>= (λ a. Some (leave T s (wrapped (scope_mark d) a))))
    left None h = tt
    left (Some a) h = record { rise = h.rise; none = h.none }

    at_test : (b : Bool)
        → HasNews sites (cond b (q (put E s d) >>= (λ a. Some (leave T s (wrapped (scope_mark d) a)))) None)
    at_test true = left (q (put E s d)) (h (put E s d))
    at_test false = tt

news_emit : (sites : List ℕ) (s : ℕ) (c : Cell) → HasNews sites (emit_step s c)
news_emit sites s cell.Unknown = tt
news_emit sites s (cell.Known v) = record { rise = nothing_sub sites; none = λ e. refl }
news_emit sites s (cell.Faulted p k) = record { rise = nothing_sub sites; none = λ e. refl }

news_faults : (sites : List ℕ) (cs : List Cell) (a : Stepped) → News sites a → News sites (add_faults cs a)
news_faults sites [] a h = h
news_faults sites (c ∷ cs) a h = news_fault sites c (add_faults cs a) (news_faults sites cs a h)

news_async : (T : Table) (n : ℕ) (cs : List Cell) → HasNews (n ∷ []) (async_step T n cs)
news_async T n cs = at_test (all_known cs)
  where
    args : List Value
    args = map argument_value (zip (T.params n) cs)

    at_test : (b : Bool) → HasNews (n ∷ []) (cond b (Some (add_faults cs (start_async n args))) None)
    at_test true =
        news_faults (n ∷ []) cs (start_async n args)
        (record { rise = keep refl ended; none = λ e. absurd (let no : ⊥ = cc in no) })
    at_test false = tt

news_answer : (T : Table) (n id : ℕ) (args : List Value) (last : Bool) (queue : List Item) (v : Value)
    → new_sites (answer_step T n id args last queue).touches ≡ []
news_answer T n id args true queue v = refl
news_answer T n id args false queue v = refl

news_resumed : (T : Table) (n id : ℕ) (args : List Value) (queue : List Item)
    → new_sites (resume_async T n id args queue).touches ≡ []
news_resumed T n id args [] = refl
news_resumed T n id args (a ∷ queue) = news_answer T n id args a.last queue a.value

-- ---- statements

on_left : (p q : Statement) (o : Option Stepped) → HasNews (sites_of p) o
    → HasNews (sites_of p ++ sites_of q) o
on_left p q = news_within (sites_of p) (sites_of p ++ sites_of q) (λ xs h. sub_left (sites_of q) h)

on_right : (p q : Statement) (o : Option Stepped) → HasNews (sites_of q) o
    → HasNews (sites_of p ++ sites_of q) o
on_right p q = news_within (sites_of q) (sites_of p ++ sites_of q) (λ xs h. sub_right (sites_of p) h)

news_halted : (p q : Statement) (P : Option Stepped) → HasNews (sites_of p) P
    → HasNews (sites_of p ++ sites_of q) (P >>= (λ a. Some (beside a (completes 0))))
news_halted p q None h = tt
news_halted p q (Some a) h =
    news_both (sites_of p) (sites_of q) a (completes 0) h (no_news (sites_of q) (completes 0) refl)

news_other : (p q : Statement) (Q : Option Stepped) → HasNews (sites_of q) Q
    → HasNews (sites_of p ++ sites_of q) (Q >>= (λ b. Some (beside (completes 0) b)))
news_other p q None h = tt
news_other p q (Some b) h =
    news_both (sites_of p) (sites_of q) (completes 0) b (no_news (sites_of p) (completes 0) refl) h

pub news : (T : Table) (p : Statement) (t : Task) (E : Env) → HasNews (sites_of p) (step T p t E)
news T Nothing t E = no_news [] (completes 0) refl
news T Pause Start E = record { rise = ended; none = λ e. refl }
news T Pause (Resume m) E = no_news [] (completes 0) refl
news T (Emit s e) t E = news_emit [] s (emitted e E)
news T (Exit k) t E = no_news [] (completes (k + 2)) refl
news T (If e p q) Start E =
    let pq = sites_of p ++ sites_of q in
    news_test pq (eval_of e E []) (wrap First (step T p Start E)) (wrap Second (step T q Start E))
    (news_wrap pq First (step T p Start E) (on_left p q (step T p Start E) (news T p Start E)))
    (news_wrap pq Second (step T q Start E) (on_right p q (step T q Start E) (news T q Start E)))
news T (If e p q) (Resume (First m)) E =
    news_wrap (sites_of p ++ sites_of q) First (step T p (Resume m) E)
    (on_left p q (step T p (Resume m) E) (news T p (Resume m) E))
news T (If e p q) (Resume (Second m)) E =
    news_wrap (sites_of p ++ sites_of q) Second (step T q (Resume m) E)
    (on_right p q (step T q (Resume m) E) (news T q (Resume m) E))
news T (Suspend e p) Start E = news_wrap (sites_of p) Inside (step T p Start E) (news T p Start E)
news T (Suspend e p) (Resume (Inside m)) E =
    news_test (sites_of p) (eval_of e E []) (Some (rests (Inside (held_mark m)) (held_touches p m)))
    (wrap Inside (step T p (Resume m) E))
    (no_news (sites_of p) (rests (Inside (held_mark m)) (held_touches p m)) (held_new p m))
    (news_wrap (sites_of p) Inside (step T p (Resume m) E) (news T p (Resume m) E))
news T (Seq p q) Start E =
    news_then (sites_of p ++ sites_of q) First Second (step T p Start E) (step T q Start E)
    (on_left p q (step T p Start E) (news T p Start E)) (on_right p q (step T q Start E) (news T q Start E))
news T (Seq p q) (Resume (First m)) E =
    news_then (sites_of p ++ sites_of q) First Second (step T p (Resume m) E) (step T q Start E)
    (on_left p q (step T p (Resume m) E) (news T p (Resume m) E))
    (on_right p q (step T q Start E) (news T q Start E))
news T (Seq p q) (Resume (Second m)) E =
    news_wrap (sites_of p ++ sites_of q) Second (step T q (Resume m) E)
    (on_right p q (step T q (Resume m) E) (news T q (Resume m) E))
news T (Par p q) Start E =
    news_beside (sites_of p) (sites_of q) (step T p Start E) (step T q Start E) (news T p Start E)
    (news T q Start E)
news T (Par p q) (Resume (First m)) E = news_halted p q (step T p (Resume m) E) (news T p (Resume m) E)
news T (Par p q) (Resume (Second m)) E = news_other p q (step T q (Resume m) E) (news T q (Resume m) E)
news T (Par p q) (Resume (Both m n)) E =
    news_beside (sites_of p) (sites_of q) (step T p (Resume m) E) (step T q (Resume n) E)
    (news T p (Resume m) E)
    (news T q (Resume n) E)
news T (Loop p) Start E = news_wrap (sites_of p) Inside (step T p Start E) (news T p Start E)
news T (Loop p) (Resume (Inside m)) E =
    news_then (sites_of p) Inside Inside (step T p (Resume m) E) (step T p Start E) (news T p (Resume m) E)
    (news T p Start E)
news T (Trap p) Start E = news_trap (sites_of p) (step T p Start E) (news T p Start E)
news T (Trap p) (Resume (Inside m)) E = news_trap (sites_of p) (step T p (Resume m) E) (news T p (Resume m) E)
news T (Local s p) Start E =
    news_local (sites_of p) T s (must_can T p Start Executed) (step T p Start) E (unsolved false (T.first s))
    (λ F. news T p Start F)
news T (Local s p) (Resume (Scope m b v)) E =
    news_local (sites_of p) T s (must_can T p (Resume m) Executed) (step T p (Resume m)) E (unsolved b v)
    (λ F. news T p (Resume m) F)
news T (Async n) Start E = news_async T n (map (λ e. eval_of e E []) (T.args n))
news T (Async n) (Resume (AtAsync id args queue suspended)) E =
    no_news (n ∷ []) (resume_async T n id args queue) (news_resumed T n id args queue)
news T _ _ E = tt

-- ---- where the sites of the statement rise, so do those of new instances

abbrev pub Ascends : List ℕ → Type 0
Ascends [] = Unit {0}
Ascends (x ∷ xs) = AllByRecursion (λ y. x ≤ y) xs × Ascends xs

all_within : (P : ℕ → Type 0) {xs ys : List ℕ} → Within xs ys → AllByRecursion P ys → AllByRecursion P xs
all_within P ended h = tt
all_within P (keep e w) h = (subst P (sym e) h.0, all_within P w h.1)
all_within P (skip w) h = all_within P w h.1

ascends_within : {xs ys : List ℕ} → Within xs ys → Ascends ys → Ascends xs
ascends_within ended h = tt
ascends_within (keep {x = x} {y = y} {xs = xs} e w) h = (
  subst (λ z. AllByRecursion (λ k. z ≤ k) xs) (sym e) (all_within (λ k. y ≤ k) w h.0),
  ascends_within w h.1,
)
ascends_within (skip w) h = ascends_within w h.1

range_ascends : (a n : ℕ) → Ascends (range_with_len a n)
range_ascends a zero = tt
range_ascends a (suc n) =
    (all_range (λ k. a ≤ k) (a + 1) n (λ i h k. omega (arith, h)), range_ascends (a + 1) n)

pub news_ascend : (T : Table) (p : Statement) (n : ℕ) → sites_of p ≡ range_with_len 0 n → (t : Task) (E : Env)
    → OnStep (λ a. Ascends (new_sites a.touches)) (step T p t E)
news_ascend T p n sites t E = by_step (step T p t E) (news T p t E)
  where
    by_step : (o : Option Stepped) → HasNews (sites_of p) o → OnStep (λ a. Ascends (new_sites a.touches)) o
    by_step None h = tt
    by_step (Some a) h =
        ascends_within (subst (λ ys. Within (new_sites a.touches) ys) sites h.rise) (range_ascends 0 n)
