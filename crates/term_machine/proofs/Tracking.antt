-- What a step does to the instances of its mark: each is touched once, and those that run on are those of the next mark.
use Rattle.std.proofs.Common.{◌≡◌, ℕ, zero, suc, Bool, true, false, cond, Option, Some, None, List, [], ◌∷◌, ◌++◌, map, refl, sym, ◌∙◌, ap, subst, arith, append-nil}
use Rattle.std.specs.Prelude.{◌==◌, ◌&&◌, ◌||◌, not, is_none, max, zip}
use Rattle.std.specs.List.{filter, list_all}
use Rattle.std.proofs.lemmas.List.Elements.{filter-append}
use Rattle.std.proofs.lemmas.List.{map-append}
use Rattle.std.proofs.lemmas.Bool.Decides.{nat_tests}
use Rattle.hh_base.specs.declared.value.Value.{Value}
use Rattle.hh_base.specs.declared.item.Item.{Item}
use Rattle.host_expr.specs.declared.cell.Cell.{Cell}
use Rattle.host_expr.specs.declared.cell.Cell.TheVariants as cell
use Rattle.host_expr.specs.declared.cell.SigCell.{SigCell}
use Rattle.host_expr.specs.Environment.{Env, is_known, is_decided, unsolved, put}
use Rattle.host_expr.specs.Evaluation.{eval_of, truth}
use Rattle.hh_term.specs.Statement.{Statement, Nothing, Pause, Emit, If, Suspend, Seq, Par, Loop, Trap}
use Rattle.hh_term.specs.Statement.{Exit, Local, Async}
use Rattle.hh_term.specs.Selection.{Selection, AtPause, AtAsync, First, Second, Both, Inside, Scope, Task}
use Rattle.hh_term.specs.Selection.{Start, Resume}
use Rattle.hh_term.specs.Marks.{IsMarkOf, ids_in}
use Rattle.hh_term.specs.MustCan.{Table, MustCan, Executed, must_can, solve, emitted, all_known, lower}
use Rattle.hh_term.specs.Step.{Stepped, ◌>>=◌, completes, rests, mark_map, wrapped, wrap, with_fault, joined, both_marks, beside, trap_step, on_test, emit_step, then_start, leave, scope_mark, local_step, add_faults, argument_value, start_async, async_step, answer_step, resume_async, step}
use Rattle.hh_term.specs.Touches.{Touch, stopped, held_mark, held_touches}

-- the ids of the instances of a mark that a task resumes, of the next mark, of touches of running instances, and of those that run on
abbrev pub ids_next : Option Selection → List ℕ
ids_next (Some m) = ids_in m
ids_next None = []

abbrev pub id_of : Touch → ℕ
id_of t = t.id

abbrev pub is_old : Touch → Bool
is_old t = is_none t.started

abbrev pub goes_on : Touch → Bool
goes_on t = t.runs_after

abbrev pub old_ids : List Touch → List ℕ
old_ids ts = map id_of (filter is_old ts)

abbrev pub going_ids : List Touch → List ℕ
going_ids ts = map id_of (filter goes_on ts)

-- a touch uses no answer where it ends, what ends does not go on, and what is started has no id yet
abbrev pub is_fair : Touch → Bool
is_fair t = not (t.used && t.ended) && not (t.ended && t.runs_after) && (is_none t.started || (t.id == 0))

abbrev pub MarkIs : (Selection → Type 0) → Option Selection → Type 0
MarkIs M (Some m) = M m
MarkIs M None = Unit {0}

pub record Tracks (M : Selection → Type 0) (held : List ℕ) (a : Stepped) : Type 0 where
  pub olds : old_ids a.touches ≡ held
  pub going : going_ids a.touches ≡ ids_next a.next
  pub fair : list_all is_fair a.touches ≡ true
  pub rests_none : (a.code == 1) ≡ false → a.next ≡ None
  pub mark : MarkIs M a.next

abbrev pub OnStep : (Stepped → Type 0) → Option Stepped → Type 0
OnStep P (Some a) = P a
OnStep P None = Unit {0}

abbrev pub Tracked : (Selection → Type 0) → List ℕ → Option Stepped → Type 0
Tracked M held o = OnStep (Tracks M held) o

-- lists of touches

old_append : (xs ys : List Touch) → old_ids (xs ++ ys) ≡ old_ids xs ++ old_ids ys
old_append xs ys = ap (map id_of) (filter-append is_old xs ys) ∙ map-append id_of (filter is_old xs) (filter is_old ys)

going_append : (xs ys : List Touch) → going_ids (xs ++ ys) ≡ going_ids xs ++ going_ids ys
going_append xs ys = ap (map id_of) (filter-append goes_on xs ys) ∙ map-append id_of (filter goes_on xs) (filter goes_on ys)

both_true : (a b c : Bool) → a && b ≡ true → (b ≡ true → c ≡ true) → a && c ≡ true
both_true true b c h g = g h
both_true false b c h g = h

pub all_append : (xs ys : List Touch) → list_all is_fair xs ≡ true → list_all is_fair ys ≡ true → list_all is_fair (xs ++ ys) ≡ true
all_append [] ys h g = g
all_append (t ∷ xs) ys h g = both_true (is_fair t) (list_all is_fair xs) (list_all is_fair (xs ++ ys)) h (λ k. all_append xs ys k g)

-- stopped touches

fair_stopped : (used ended runs : Bool) (rest : Bool) → not (used && ended) && not (ended && runs) && rest ≡ true → not (used && ended) && not (ended && false) && rest ≡ true
fair_stopped true true runs rest h = h
fair_stopped true false runs rest h = h
fair_stopped false true true rest h = cc
fair_stopped false true false rest h = h
fair_stopped false false runs rest h = h

pair_true : (a b c d : Bool) → a && b ≡ true → (a ≡ true → c ≡ true) → (b ≡ true → d ≡ true) → c && d ≡ true
pair_true true true c d h f g = ap (λ (x : Bool). x && d) (f refl) ∙ g refl
pair_true true false c d h f g = cc
pair_true false b c d h f g = cc

pub stopped_fair : (ts : List Touch) → list_all is_fair ts ≡ true → list_all is_fair (map stopped ts) ≡ true
stopped_fair [] h = refl
stopped_fair (t ∷ ts) h = pair_true (is_fair t) (list_all is_fair ts) (is_fair (stopped t)) (list_all is_fair (map stopped ts)) h (λ k. fair_stopped t.used t.ended t.runs_after (is_none t.started || (t.id == 0)) k) (λ k. stopped_fair ts k)

stopped_going : (ts : List Touch) → going_ids (map stopped ts) ≡ []
stopped_going [] = refl
stopped_going (t ∷ ts) = stopped_going ts

old_head : (b : Bool) (n : ℕ) (t u : Touch) (ts us : List Touch) → t.id ≡ u.id → map id_of ts ≡ map id_of us → map id_of (cond b (t ∷ ts) ts) ≡ map id_of (cond b (u ∷ us) us)
old_head true n t u ts us e h = ap (λ (x : ℕ). x ∷ map id_of ts) e ∙ ap (λ (xs : List ℕ). u.id ∷ xs) h
old_head false n t u ts us e h = h

stopped_old : (ts : List Touch) → old_ids (map stopped ts) ≡ old_ids ts
stopped_old [] = refl
stopped_old (t ∷ ts) = old_head (is_none t.started) 0 (stopped t) t (filter is_old (map stopped ts)) (filter is_old ts) refl (stopped_old ts)

-- combinators

tracks_wrapped : (f : Selection → Selection) (M N : Selection → Type 0) (held : List ℕ) → ((m : Selection) → ids_in (f m) ≡ ids_in m) → ((m : Selection) → M m → N (f m)) → (a : Stepped) → Tracks M held a → Tracks N held (wrapped f a)
tracks_wrapped f M N held same is a t = record { olds = t.olds; going = t.going ∙ sym (ids_wrapped a.next); fair = t.fair; rests_none = λ e. ap (mark_map f) (t.rests_none e); mark = mark_wrapped a.next t.mark }
  where
    ids_wrapped : (o : Option Selection) → ids_next (mark_map f o) ≡ ids_next o
    ids_wrapped (Some m) = same m
    ids_wrapped None = refl

    mark_wrapped : (o : Option Selection) → MarkIs M o → MarkIs N (mark_map f o)
    mark_wrapped (Some m) h = is m h
    mark_wrapped None h = tt

tracked_wrap : (f : Selection → Selection) (M N : Selection → Type 0) (held : List ℕ) → ((m : Selection) → ids_in (f m) ≡ ids_in m) → ((m : Selection) → M m → N (f m)) → (o : Option Stepped) → Tracked M held o → Tracked N held (wrap f o)
tracked_wrap f M N held same is (Some a) t = tracks_wrapped f M N held same is a t
tracked_wrap f M N held same is None t = tt

tracks_fault : (c : Cell) (M : Selection → Type 0) (held : List ℕ) (a : Stepped) → Tracks M held a → Tracks M held (with_fault c a)
tracks_fault cell.Unknown M held a t = t
tracks_fault (cell.Known v) M held a t = t
tracks_fault (cell.Faulted o k) M held a t = record { olds = t.olds; going = t.going; fair = t.fair; rests_none = t.rests_none; mark = t.mark }

tracked_fault : (c : Cell) (M : Selection → Type 0) (held : List ℕ) (o : Option Stepped) → Tracked M held o → Tracked M held (o >>= (λ a. Some (with_fault c a)))
tracked_fault c M held (Some a) t = tracks_fault c M held a t
tracked_fault c M held None t = tt

tracked_if : (b : Bool) (M : Selection → Type 0) (held : List ℕ) (p q : Option Stepped) → Tracked M held p → Tracked M held q → Tracked M held (cond b p q)
tracked_if true M held p q t u = t
tracked_if false M held p q t u = u

tracked_test : (c : Cell) (M : Selection → Type 0) (held : List ℕ) (p q : Option Stepped) → Tracked M held p → Tracked M held q → Tracked M held (on_test c p q)
tracked_test cell.Unknown M held p q t u = tt
tracked_test (cell.Known v) M held p q t u = tracked_if (truth v) M held p q t u
tracked_test (cell.Faulted o k) M held p q t u = tracked_fault (cell.Faulted o k) M held q u

no_mark : (n : ℕ) → (n == 0) ≡ true → (n == 1) ≡ false
no_mark n e = grind (arith, nat_tests)

tracks_joined : (M N : Selection → Type 0) (held : List ℕ) (a b : Stepped) → (a.code == 0) ≡ true → Tracks M held a → Tracks N [] b → Tracks N held (joined a b)
tracks_joined M N held a b zero_code t u =
    record {
      olds = old_append a.touches b.touches ∙ ap (λ (xs : List ℕ). xs ++ old_ids b.touches) t.olds ∙ ap (λ (xs : List ℕ). held ++ xs) u.olds ∙ append-nil held;
      going = going_append a.touches b.touches ∙ ap (λ (xs : List ℕ). xs ++ going_ids b.touches) (t.going ∙ ap ids_next (t.rests_none (no_mark a.code zero_code))) ∙ u.going;
      fair = all_append a.touches b.touches t.fair u.fair;
      rests_none = u.rests_none;
      mark = u.mark;
    }

tracked_then : (f g : Selection → Selection) (M M' N : Selection → Type 0) (held : List ℕ) → ((m : Selection) → ids_in (f m) ≡ ids_in m) → ((m : Selection) → ids_in (g m) ≡ ids_in m) → ((m : Selection) → M m → N (f m)) → ((m : Selection) → M' m → N (g m))
    → (p q : Option Stepped) → Tracked M held p → Tracked M' [] q → Tracked N held (then_start f g p q)
tracked_then f g M M' N held same same' is is' None q t u = tt
tracked_then f g M M' N held same same' is is' (Some a) q t u = at (a.code == 0) refl q u
  where
    at : (b : Bool) → (a.code == 0) ≡ b → (q : Option Stepped) → Tracked M' [] q → Tracked N held (cond b (q >>= (λ b. Some (joined a (wrapped g b)))) (Some (wrapped f a)))
    at true e (Some b) u = tracks_joined M N held a (wrapped g b) e t (tracks_wrapped g M' N [] same' is' b u)
    at true e None u = tt
    at false e q u = tracks_wrapped f M N held same is a t

-- two branches
tracks_beside : (M M' N : Selection → Type 0) (h h' : List ℕ) → ((m : Selection) → M m → N (First m)) → ((m : Selection) → M' m → N (Second m)) → ((m n : Selection) → M m → M' n → N (Both m n)) → (a b : Stepped) → Tracks M h a → Tracks M' h' b → Tracks N (h ++ h') (beside a b)
tracks_beside M M' N h h' first second both a b t u = at (max a.code b.code == 1) refl
  where
    x : Stepped
    x = record (joined a b) { code = max a.code b.code; next = both_marks a.next b.next }

    olds : old_ids (a.touches ++ b.touches) ≡ h ++ h'
    olds = old_append a.touches b.touches ∙ ap (λ (xs : List ℕ). xs ++ old_ids b.touches) t.olds ∙ ap (λ (xs : List ℕ). h ++ xs) u.olds

    ids_both : (o o' : Option Selection) → ids_next o ++ ids_next o' ≡ ids_next (both_marks o o')
    ids_both (Some m) (Some n) = refl
    ids_both (Some m) None = append-nil (ids_in m)
    ids_both None (Some n) = refl
    ids_both None None = refl

    mark_both : (o o' : Option Selection) → MarkIs M o → MarkIs M' o' → MarkIs N (both_marks o o')
    mark_both (Some m) (Some n) f g = both m n f g
    mark_both (Some m) None f g = first m f
    mark_both None (Some n) f g = second n g
    mark_both None None f g = tt

    at : (c : Bool) → (max a.code b.code == 1) ≡ c → Tracks N (h ++ h') (cond c x (record x { next = None; touches = map stopped x.touches }))
    at true e =
        record {
          olds = olds;
          going = going_append a.touches b.touches ∙ ap (λ (xs : List ℕ). xs ++ going_ids b.touches) t.going ∙ ap (λ (xs : List ℕ). ids_next a.next ++ xs) u.going ∙ ids_both a.next b.next;
          fair = all_append a.touches b.touches t.fair u.fair;
          rests_none = λ f. cc;
          mark = mark_both a.next b.next t.mark u.mark;
        }
    at false e =
        record {
          olds = stopped_old (a.touches ++ b.touches) ∙ olds;
          going = stopped_going (a.touches ++ b.touches);
          fair = stopped_fair (a.touches ++ b.touches) (all_append a.touches b.touches t.fair u.fair);
          rests_none = λ f. refl;
          mark = tt;
        }

-- traps, scopes and asyncs

above_one : (n : ℕ) → (suc (suc n) == 1) ≡ false
above_one n = grind (arith, nat_tests)

lower_one : (n : ℕ) → (lower n == 1) ≡ false → (n == 1) ≡ false
lower_one zero e = refl
lower_one (suc zero) e = e
lower_one (suc (suc n)) e = above_one n

tracks_trap : (M N : Selection → Type 0) (held : List ℕ) → ((m : Selection) → M m → N (Inside m)) → (a : Stepped) → Tracks M held a → Tracks N held (trap_step a)
tracks_trap M N held is a t =
    let w = tracks_wrapped Inside M N held (λ m. refl) is a t in
    record { olds = w.olds; going = w.going; fair = w.fair; rests_none = λ e. w.rests_none (lower_one a.code e); mark = w.mark }

tracked_trap : (M N : Selection → Type 0) (held : List ℕ) → ((m : Selection) → M m → N (Inside m)) → (o : Option Stepped) → Tracked M held o → Tracked N held (o >>= (λ a. Some (trap_step a)))
tracked_trap M N held is (Some a) t = tracks_trap M N held is a t
tracked_trap M N held is None t = tt

tracked_local : (T : Table) (s : ℕ) (p : Env → MustCan) (q : Env → Option Stepped) (E : Env) (c : SigCell) (M N : Selection → Type 0) (held : List ℕ) → ((m : Selection) (b : Bool) (v : Value) → M m → N (Scope m b v)) → ((F : Env) → Tracked M held (q F)) → Tracked N held (local_step T s p q E c)
tracked_local T s p q E c M N held is t = at (is_decided d.status && is_known d.value)
  where
    d : SigCell
    d = solve T s p E c

    left : (o : Option Stepped) → Tracked M held o → Tracked N held (o >>= (λ a. Some (leave T s (wrapped (scope_mark d) a))))
    left (Some a) t =
        let w = tracks_wrapped (scope_mark d) M N held (λ m. refl) (λ m h. is m _ _ h) a t in
        record { olds = w.olds; going = w.going; fair = w.fair; rests_none = w.rests_none; mark = w.mark }
    left None t = tt

    at : (b : Bool) → Tracked N held (cond b (q (put E s d) >>= (λ a. Some (leave T s (wrapped (scope_mark d) a)))) None)
    at true = left (q (put E s d)) (t (put E s d))
    at false = tt

tracks_faults : (cs : List Cell) (M : Selection → Type 0) (held : List ℕ) (a : Stepped) → Tracks M held a → Tracks M held (add_faults cs a)
tracks_faults [] M held a t = t
tracks_faults (c ∷ cs) M held a t = tracks_fault c M held (add_faults cs a) (tracks_faults cs M held a t)

start_tracks : (n : ℕ) (args : List Value) → Tracks (IsMarkOf (Async n)) [] (start_async n args)
start_tracks n args = record { olds = refl; going = refl; fair = refl; rests_none = λ e. cc; mark = tt }

tracked_start : (T : Table) (n : ℕ) (cs : List Cell) → Tracked (IsMarkOf (Async n)) [] (async_step T n cs)
tracked_start T n cs = at (all_known cs)
  where
    x : Stepped
    x = start_async n (map argument_value (zip (T.params n) cs))

    at : (b : Bool) → Tracked (IsMarkOf (Async n)) [] (cond b (Some (add_faults cs x)) None)
    at true = tracks_faults cs (IsMarkOf (Async n)) [] x (start_tracks n (map argument_value (zip (T.params n) cs)))
    at false = tt

tracks_answer : (T : Table) (n id : ℕ) (args : List Value) (last : Bool) (queue : List Item) → Tracks (IsMarkOf (Async n)) (id ∷ []) (answer_step T n id args last queue)
tracks_answer T n id args true queue = record { olds = refl; going = refl; fair = refl; rests_none = λ e. refl; mark = tt }
tracks_answer T n id args false queue = record { olds = refl; going = refl; fair = refl; rests_none = λ e. cc; mark = tt }

tracks_resume : (T : Table) (n id : ℕ) (args : List Value) (queue : List Item) → Tracks (IsMarkOf (Async n)) (id ∷ []) (resume_async T n id args queue)
tracks_resume T n id args [] = record { olds = refl; going = refl; fair = refl; rests_none = λ e. cc; mark = tt }
tracks_resume T n id args (a ∷ queue) =
    let t = tracks_answer T n id args a.last queue in
    record { olds = t.olds; going = t.going; fair = t.fair; rests_none = t.rests_none; mark = t.mark }

-- a guard holds a mark

held_ids : (m : Selection) → ids_in (held_mark m) ≡ ids_in m
held_ids AtPause = refl
held_ids (AtAsync id args queue suspended) = refl
held_ids (First m) = held_ids m
held_ids (Second m) = held_ids m
held_ids (Both m n) = ap (λ (is : List ℕ). is ++ ids_in (held_mark n)) (held_ids m) ∙ ap (λ (is : List ℕ). ids_in m ++ is) (held_ids n)
held_ids (Inside m) = held_ids m
held_ids (Scope m b v) = held_ids m

held_is : (p : Statement) (m : Selection) → IsMarkOf p m → IsMarkOf p (held_mark m)
held_is Pause AtPause h = tt
held_is (Async n) (AtAsync id args queue suspended) h = tt
held_is (If e p q) (First m) h = held_is p m h
held_is (If e p q) (Second m) h = held_is q m h
held_is (Suspend e p) (Inside m) h = held_is p m h
held_is (Seq p q) (First m) h = held_is p m h
held_is (Seq p q) (Second m) h = held_is q m h
held_is (Par p q) (First m) h = held_is p m h
held_is (Par p q) (Second m) h = held_is q m h
held_is (Par p q) (Both m n) h = (held_is p m h.0, held_is q n h.1)
held_is (Loop p) (Inside m) h = held_is p m h
held_is (Trap p) (Inside m) h = held_is p m h
held_is (Local s p) (Scope m b v) h = held_is p m h
held_is _ _ h = absurd h

-- touches of a held mark, by a property that goes along their list

pub record Holding (ids : List ℕ) (ts : List Touch) : Type 0 where
  pub olds : old_ids ts ≡ ids
  pub going : going_ids ts ≡ ids
  pub fair : list_all is_fair ts ≡ true

both_holding : (is js : List ℕ) (ts us : List Touch) → Holding is ts → Holding js us → Holding (is ++ js) (ts ++ us)
both_holding is js ts us h g =
    record {
      olds = old_append ts us ∙ ap (λ (xs : List ℕ). xs ++ old_ids us) h.olds ∙ ap (λ (xs : List ℕ). is ++ xs) g.olds;
      going = going_append ts us ∙ ap (λ (xs : List ℕ). xs ++ going_ids us) h.going ∙ ap (λ (xs : List ℕ). is ++ xs) g.going;
      fair = all_append ts us h.fair g.fair;
    }

pub holding : (p : Statement) (m : Selection) → IsMarkOf p m → Holding (ids_in m) (held_touches p m)
holding Pause AtPause h = record { olds = refl; going = refl; fair = refl }
holding (Async n) (AtAsync id args queue suspended) h = record { olds = refl; going = refl; fair = refl }
holding (If e p q) (First m) h = holding p m h
holding (If e p q) (Second m) h = holding q m h
holding (Suspend e p) (Inside m) h = holding p m h
holding (Seq p q) (First m) h = holding p m h
holding (Seq p q) (Second m) h = holding q m h
holding (Par p q) (First m) h = holding p m h
holding (Par p q) (Second m) h = holding q m h
holding (Par p q) (Both m n) h = both_holding (ids_in m) (ids_in n) (held_touches p m) (held_touches q n) (holding p m h.0) (holding q n h.1)
holding (Loop p) (Inside m) h = holding p m h
holding (Trap p) (Inside m) h = holding p m h
holding (Local s p) (Scope m b v) h = holding p m h
holding _ _ h = absurd h

tracks_held : (p : Statement) (N : Selection → Type 0) (m : Selection) → IsMarkOf p m → ((m : Selection) → IsMarkOf p m → N (Inside m)) → Tracks N (ids_in m) (rests (Inside (held_mark m)) (held_touches p m))
tracks_held p N m h is = let g = holding p m h in record { olds = g.olds; going = g.going ∙ sym (held_ids m); fair = g.fair; rests_none = λ e. cc; mark = is (held_mark m) (held_is p m h) }

-- ---- the statements

abbrev pub IsTask : Statement → Task → Type 0
IsTask p Start = Unit {0}
IsTask p (Resume m) = IsMarkOf p m

abbrev pub ids_of_task : Task → List ℕ
ids_of_task Start = []
ids_of_task (Resume m) = ids_in m

done : (M : Selection → Type 0) (code : ℕ) → Tracks M [] (completes code)
done M code = record { olds = refl; going = refl; fair = refl; rests_none = λ e. refl; mark = tt }

emits : (M : Selection → Type 0) (s : ℕ) (c : Cell) → Tracked M [] (emit_step s c)
emits M s cell.Unknown = tt
emits M s (cell.Known v) = record { olds = refl; going = refl; fair = refl; rests_none = λ e. refl; mark = tt }
emits M s (cell.Faulted o k) = record { olds = refl; going = refl; fair = refl; rests_none = λ e. refl; mark = tt }

tracked_beside : (M M' N : Selection → Type 0) (h h' : List ℕ) → ((m : Selection) → M m → N (First m)) → ((m : Selection) → M' m → N (Second m)) → ((m n : Selection) → M m → M' n → N (Both m n))
    → (o o' : Option Stepped) → Tracked M h o → Tracked M' h' o' → Tracked N (h ++ h') (o >>= (λ a. o' >>= (λ b. Some (beside a b))))
tracked_beside M M' N h h' first second both (Some a) (Some b) t u = tracks_beside M M' N h h' first second both a b t u
tracked_beside M M' N h h' first second both (Some a) None t u = tt
tracked_beside M M' N h h' first second both None o' t u = tt

tracked_first : (M M' N : Selection → Type 0) (h : List ℕ) → ((m : Selection) → M m → N (First m)) → ((m : Selection) → M' m → N (Second m)) → ((m n : Selection) → M m → M' n → N (Both m n))
    → (o : Option Stepped) → Tracked M h o → Tracked N h (o >>= (λ a. Some (beside a (completes 0))))
tracked_first M M' N h first second both (Some a) t = subst (λ (is : List ℕ). Tracks N is (beside a (completes 0))) (append-nil h) (tracks_beside M M' N h [] first second both a (completes 0) t (done M' 0))
tracked_first M M' N h first second both None t = tt

tracked_second : (M M' N : Selection → Type 0) (h : List ℕ) → ((m : Selection) → M m → N (First m)) → ((m : Selection) → M' m → N (Second m)) → ((m n : Selection) → M m → M' n → N (Both m n))
    → (o : Option Stepped) → Tracked M' h o → Tracked N h (o >>= (λ b. Some (beside (completes 0) b)))
tracked_second M M' N h first second both (Some b) t = tracks_beside M M' N [] h first second both (completes 0) b (done M 0) t
tracked_second M M' N h first second both None t = tt

pub tracked : (T : Table) (p : Statement) (t : Task) (E : Env) → IsTask p t → Tracked (IsMarkOf p) (ids_of_task t) (step T p t E)
tracked T Nothing Start E h = done (IsMarkOf Nothing) 0
tracked T Pause Start E h = record { olds = refl; going = refl; fair = refl; rests_none = λ e. cc; mark = tt }
tracked T Pause (Resume AtPause) E h = done (IsMarkOf Pause) 0
tracked T (Emit s x) Start E h = emits (IsMarkOf (Emit s x)) s (emitted x E)
tracked T (Exit k) Start E h = record { olds = refl; going = refl; fair = refl; rests_none = λ e. refl; mark = tt }
tracked T (If x p q) Start E h =
    tracked_test (eval_of x E []) (IsMarkOf (If x p q)) [] (wrap First (step T p Start E)) (wrap Second (step T q Start E))
    (tracked_wrap First (IsMarkOf p) (IsMarkOf (If x p q)) [] (λ m. refl) (λ m g. g) (step T p Start E) (tracked T p Start E tt))
    (tracked_wrap Second (IsMarkOf q) (IsMarkOf (If x p q)) [] (λ m. refl) (λ m g. g) (step T q Start E) (tracked T q Start E tt))
tracked T (If x p q) (Resume (First m)) E h = tracked_wrap First (IsMarkOf p) (IsMarkOf (If x p q)) (ids_in m) (λ m. refl) (λ m g. g) (step T p (Resume m) E) (tracked T p (Resume m) E h)
tracked T (If x p q) (Resume (Second m)) E h = tracked_wrap Second (IsMarkOf q) (IsMarkOf (If x p q)) (ids_in m) (λ m. refl) (λ m g. g) (step T q (Resume m) E) (tracked T q (Resume m) E h)
tracked T (Suspend x p) Start E h = tracked_wrap Inside (IsMarkOf p) (IsMarkOf (Suspend x p)) [] (λ m. refl) (λ m g. g) (step T p Start E) (tracked T p Start E tt)
tracked T (Suspend x p) (Resume (Inside m)) E h =
    tracked_test (eval_of x E []) (IsMarkOf (Suspend x p)) (ids_in m) (Some (rests (Inside (held_mark m)) (held_touches p m))) (wrap Inside (step T p (Resume m) E)) (tracks_held p (IsMarkOf (Suspend x p)) m h (λ n g. g))
    (tracked_wrap Inside (IsMarkOf p) (IsMarkOf (Suspend x p)) (ids_in m) (λ m. refl) (λ m g. g) (step T p (Resume m) E) (tracked T p (Resume m) E h))
tracked T (Seq p q) Start E h =
    tracked_then First Second (IsMarkOf p) (IsMarkOf q) (IsMarkOf (Seq p q)) [] (λ m. refl) (λ m. refl) (λ m g. g) (λ m g. g) (step T p Start E) (step T q Start E) (tracked T p Start E tt) (tracked T q Start E tt)
tracked T (Seq p q) (Resume (First m)) E h =
    tracked_then First Second (IsMarkOf p) (IsMarkOf q) (IsMarkOf (Seq p q)) (ids_in m) (λ m. refl) (λ m. refl) (λ m g. g) (λ m g. g) (step T p (Resume m) E) (step T q Start E) (tracked T p (Resume m) E h) (tracked T q Start E tt)
tracked T (Seq p q) (Resume (Second m)) E h = tracked_wrap Second (IsMarkOf q) (IsMarkOf (Seq p q)) (ids_in m) (λ m. refl) (λ m g. g) (step T q (Resume m) E) (tracked T q (Resume m) E h)
tracked T (Par p q) Start E h =
    tracked_beside (IsMarkOf p) (IsMarkOf q) (IsMarkOf (Par p q)) [] [] (λ m g. g) (λ m g. g) (λ m n f g. (f, g)) (step T p Start E) (step T q Start E) (tracked T p Start E tt) (tracked T q Start E tt)
tracked T (Par p q) (Resume (First m)) E h =
    tracked_first (IsMarkOf p) (IsMarkOf q) (IsMarkOf (Par p q)) (ids_in m) (λ m g. g) (λ m g. g) (λ m n f g. (f, g)) (step T p (Resume m) E) (tracked T p (Resume m) E h)
tracked T (Par p q) (Resume (Second m)) E h =
    tracked_second (IsMarkOf p) (IsMarkOf q) (IsMarkOf (Par p q)) (ids_in m) (λ m g. g) (λ m g. g) (λ m n f g. (f, g)) (step T q (Resume m) E) (tracked T q (Resume m) E h)
tracked T (Par p q) (Resume (Both m n)) E h =
    tracked_beside (IsMarkOf p) (IsMarkOf q) (IsMarkOf (Par p q)) (ids_in m) (ids_in n) (λ m g. g) (λ m g. g) (λ m n f g. (f, g)) (step T p (Resume m) E) (step T q (Resume n) E) (tracked T p (Resume m) E h.0) (tracked T q (Resume n) E h.1)
tracked T (Loop p) Start E h = tracked_wrap Inside (IsMarkOf p) (IsMarkOf (Loop p)) [] (λ m. refl) (λ m g. g) (step T p Start E) (tracked T p Start E tt)
tracked T (Loop p) (Resume (Inside m)) E h =
    tracked_then Inside Inside (IsMarkOf p) (IsMarkOf p) (IsMarkOf (Loop p)) (ids_in m) (λ m. refl) (λ m. refl) (λ m g. g) (λ m g. g) (step T p (Resume m) E) (step T p Start E) (tracked T p (Resume m) E h) (tracked T p Start E tt)
tracked T (Trap p) Start E h = tracked_trap (IsMarkOf p) (IsMarkOf (Trap p)) [] (λ m g. g) (step T p Start E) (tracked T p Start E tt)
tracked T (Trap p) (Resume (Inside m)) E h = tracked_trap (IsMarkOf p) (IsMarkOf (Trap p)) (ids_in m) (λ m g. g) (step T p (Resume m) E) (tracked T p (Resume m) E h)
tracked T (Local s p) Start E h =
    tracked_local T s (must_can T p Start Executed) (step T p Start) E (unsolved false (T.first s)) (IsMarkOf p) (IsMarkOf (Local s p)) [] (λ m b v g. g) (λ F. tracked T p Start F tt)
tracked T (Local s p) (Resume (Scope m b v)) E h =
    tracked_local T s (must_can T p (Resume m) Executed) (step T p (Resume m)) E (unsolved b v) (IsMarkOf p) (IsMarkOf (Local s p)) (ids_in m) (λ m b v g. g) (λ F. tracked T p (Resume m) F h)
tracked T (Async n) Start E h = tracked_start T n (map (λ x. eval_of x E []) (T.args n))
tracked T (Async n) (Resume (AtAsync id args queue suspended)) E h = tracks_resume T n id args queue
tracked T _ (Resume _) E h = absurd h
