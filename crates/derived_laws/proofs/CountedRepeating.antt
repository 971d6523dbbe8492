-- `do .. every` and `every` with a count, from `abort count` in a loop.
use Rattle.std.proofs.Common.{◌≡◌, refl, ap, ◌∙◌, ℕ, Bool, true, false, cond, Option, Some, None}
use Rattle.std.proofs.Common.{List, [], ◌∷◌, ◌++◌, map, length}
use Rattle.std.specs.Prelude.{option_map}
use Rattle.hh_base.specs.declared.value.Pos.{Pos}
use Rattle.host_expr.specs.declared.cell.Cell.{Cell}
use Rattle.host_expr.specs.declared.cell.Cell.TheVariants as cell
use Rattle.host_expr.specs.declared.cell.SigCell.{SigCell}
use Rattle.host_expr.specs.declared.expr.Expr.{Expr}
use Rattle.host_expr.specs.Environment.{Env, put}
use Rattle.host_expr.specs.Evaluation.{truth}
use Rattle.hh_term.specs.Statement.{Statement, Pause, Seq, Loop}
use Rattle.hh_term.specs.Selection.{Selection, AtPause, AtAsync, First, Second, Both, Inside, Scope, Task, Start, Resume}
use Rattle.hh_term.specs.MustCan.{Table, MustCan, Index, must_can, gives, is_end, sequence, cells_of}
use Rattle.hh_term.specs.Step.{Stepped, ◌>>=◌, completes, rests, wrapped, wrap, joined, then_start, on_test}
use Rattle.hh_term.specs.Step.{step}
use Rattle.hh_term.specs.Touches.{Touch, stopped, held_touches}
use Rattle.hh_term.specs.Placed.{unplaced}
use Rattle.kernel_expand.specs.Numbering.{Piece, Around, Numbered, numbering, in_numbers}
use Rattle.kernel_expand.specs.Rows as row
use Rattle.derived_laws.specs.Statements.{kernel, plain, test}
use Rattle.derived_laws.specs.Reactions.{inside, killed, then_fault, by_test}
use Rattle.derived_laws.specs.Waits.{halted}
use Rattle.derived_laws.specs.Counts.{turns, Turn, goes_to}
use Rattle.derived_laws.specs.CountedAborts.{IsOwn, counting_down, counted_down, counted_body, StandsBelow}
use Rattle.derived_laws.specs.Repeats.{idle, halts_behind, begins, StaysIn}
use Rattle.derived_laws.specs.CountedRepeats.{renewing_down, repeating_down}
use Rattle.derived_laws.specs.CountedRepeats.{counted_anew, renews_counted, counted_first}
use Rattle.derived_laws.proofs.Watching.{same_steps, marks_twice}
use Rattle.derived_laws.proofs.Waiting.{through_test}
use Rattle.derived_laws.proofs.Solving.{NoCells, cells_append, give_must, give_can, no_bag}
use Rattle.derived_laws.proofs.Turns.{count_waits, count_stands}
use Rattle.derived_laws.proofs.Repeating.{with_halt, halts_at, wrap_inside, wrap_watched, kill_of, Going, going}
use Rattle.derived_laws.proofs.CountedAborting.{at_start, later, counted_expands}

-- ---- a body with `halt` behind it knows nothing of the counter either

halt_blind : (T : Table) (m : Selection) (E F : Env) → step T (Loop Pause) (Resume m) E ≡ step T (Loop Pause) (Resume m) F
halt_blind T AtPause E F = refl
halt_blind T (AtAsync id args queue suspended) E F = refl
halt_blind T (First m) E F = refl
halt_blind T (Second m) E F = refl
halt_blind T (Both m n) E F = refl
halt_blind T (Inside m) E F = refl
halt_blind T (Scope m b v) E F = refl

blind : (T : Table) (c : ℕ) (d : Expr ℕ) (p : Statement) → IsOwn T c d p → (t : Task) (E : Env) (x : SigCell)
    → step T (with_halt p) t (put E c x) ≡ step T (with_halt p) t E
blind T c d p own Start E x = ap (λ o. then_start First Second o (Some (rests halted []))) (own.step Start E x)
blind T c d p own (Resume (First m)) E x =
    ap (λ o. then_start First Second o (Some (rests halted []))) (own.step (Resume m) E x)
blind T c d p own (Resume (Second m)) E x = ap (wrap Second) (halt_blind T m (put E c x) E)
blind T c d p own (Resume _) E x = refl

silent_behind : (c : ℕ) (a : MustCan) → NoCells c a → NoCells c (sequence a (λ j. gives [] 1 j))
silent_behind c a h = (
  cells_append c a.must (gives [] 1 (is_end a.code)).must
      ∙ ap (λ z. z ++ cells_of c (gives [] 1 (is_end a.code)).must) h.0
      ∙ ap (cells_of c) (give_must 1 (is_end a.code)),
  cells_append c a.can (cond (a.codes 0) (gives [] 1 (is_end a.code)).can [])
      ∙ ap (λ z. z ++ cells_of c (cond (a.codes 0) (gives [] 1 (is_end a.code)).can [])) h.1
      ∙ ap (λ z. cells_of c (cond (a.codes 0) z [])) (give_can 1 (is_end a.code))
      ∙ at (a.codes 0),
)
  where
    at : (b : Bool) → cells_of c (cond b no_bag no_bag) ≡ []
    at true = refl
    at false = refl

gives_none : (c k : ℕ) (i : Index) → NoCells c (gives [] k i)
gives_none c k i = (ap (cells_of c) (give_must k i), ap (cells_of c) (give_can k i))

halt_silent : (T : Table) (c : ℕ) (m : Selection) (i : Index) (E : Env)
    → NoCells c (must_can T (Loop Pause) (Resume m) i E)
halt_silent T c AtPause i E = gives_none c 0 i
halt_silent T c (AtAsync id args queue suspended) i E = gives_none c 0 i
halt_silent T c (First m) i E = gives_none c 0 i
halt_silent T c (Second m) i E = gives_none c 0 i
halt_silent T c (Both m n) i E = gives_none c 0 i
halt_silent T c (Inside m) i E = silent_behind c (gives [] 0 i) (gives_none c 0 i)
halt_silent T c (Scope m b v) i E = gives_none c 0 i

silent : (T : Table) (c : ℕ) (d : Expr ℕ) (p : Statement) → IsOwn T c d p → (t : Task) (i : Index) (E : Env)
    → NoCells c (must_can T (with_halt p) t i E)
silent T c d p own Start i E =
    silent_behind c (must_can T p Start i E) (own.must Start i E, own.can Start i E)
silent T c d p own (Resume (First m)) i E =
    silent_behind c (must_can T p (Resume m) i E) (own.must (Resume m) i E, own.can (Resume m) i E)
silent T c d p own (Resume (Second m)) i E = halt_silent T c m i E
silent T c d p own (Resume _) i E = gives_none c 0 i

own_behind : (T : Table) (c : ℕ) (d : Expr ℕ) (p : Statement) → IsOwn T c d p → IsOwn T c d (with_halt p)
own_behind T c d p own =
    record {
      first = own.first;
      unread = own.unread;
      step = blind T c d p own;
      must = λ t i E. (silent T c d p own t i E).0;
      can = λ t i E. (silent T c d p own t i E).1;
    }

-- ---- what ends starts anew

anew : (f : Selection → Selection) (ts : List Touch) (s : Option Stepped)
    → then_start Inside Inside (Some (kill_of ts)) (option_map (inside f) s)
    ≡ option_map (λ b. joined (kill_of ts) b) (begins (λ m. Inside (f m)) s)
anew f ts None = refl
anew f ts (Some b) =
    ap (λ (x : Stepped). Some x)
    (same_steps (joined (kill_of ts) (wrapped Inside (inside f b)))
    (joined (kill_of ts) (inside (λ m. Inside (f m)) b)) refl refl (marks_twice Inside f b.next) refl refl refl)

goes_on : (f : Selection → Selection) (s q : Option Stepped) → Going s
    → then_start Inside Inside (option_map (inside f) s) q ≡ begins (λ m. Inside (f m)) s
goes_on f None q h = refl
goes_on f (Some a) q h =
    ap (λ (b : Bool). cond b (q >>= (λ b. Some (joined (inside f a) (wrapped Inside b))))
    (Some (wrapped Inside (inside f a)))) h
    ∙ wrap_inside Inside f (Some a)

goes_watched : (f : Selection → Selection) (c : Cell) (s q : Option Stepped) → Going s
    → then_start Inside Inside (option_map (λ a. then_fault c (inside f a)) s) q
    ≡ option_map (λ a. then_fault c (inside (λ m. Inside (f m)) a)) s
goes_watched f c None q h = refl
goes_watched f c (Some a) q h =
    ap (λ (b : Bool). cond b (q >>= (λ b. Some (joined (then_fault c (inside f a)) (wrapped Inside b))))
    (Some (wrapped Inside (then_fault c (inside f a))))) h
    ∙ wrap_watched Inside f c (Some a)

holds : (first : Selection) (rest : List Selection) (ts : List Touch) (s q : Option Stepped) → Going s
    → then_start Inside Inside (counted_down rest (kill_of ts) s) (option_map (inside (counting_down first)) q)
    ≡ counted_anew renewing_down first rest (kill_of ts) s q
holds first [] ts s q h = anew (counting_down first) ts q
holds first (v ∷ rest) ts s q h = goes_on (counting_down v) s (option_map (inside (counting_down first)) q) h

by_flag : (first w : Selection) (rest : List Selection) (ts : List Touch) (c : Cell) (b : Bool) (s q : Option Stepped)
    → Going s
    → then_start Inside Inside
    (cond b (counted_down rest (kill_of ts) s) (option_map (λ a. then_fault c (inside (counting_down w) a)) s))
    (option_map (inside (counting_down first)) q)
    ≡ cond b (counted_anew renewing_down first rest (kill_of ts) s q)
    (option_map (λ a. then_fault c (inside (renewing_down w) a)) s)
by_flag first w rest ts c true s q h = holds first rest ts s q h
by_flag first w rest ts c false s q h =
    goes_watched (counting_down w) c s (option_map (inside (counting_down first)) q) h

renewal : (first w : Selection) (rest : List Selection) (ts : List Touch) (c : Cell) (s q : Option Stepped) → Going s
    → then_start Inside Inside
    (by_test c (counted_down rest (kill_of ts) s) (option_map (λ a. then_fault c (inside (counting_down w) a)) s))
    (option_map (inside (counting_down first)) q)
    ≡ renews_counted renewing_down c first w rest (kill_of ts) s q
renewal first w rest ts cell.Unknown s q h = refl
renewal first w rest ts (cell.Known v) s q h = by_flag first w rest ts (cell.Known v) (truth v) s q h
renewal first w rest ts (cell.Faulted o k) s q h =
    goes_watched (counting_down w) (cell.Faulted o k) s (option_map (inside (counting_down first)) q) h

-- ---- `do .. every`

pub do_starts : (T : Table) (E : Env) (c n : ℕ) (d : Expr ℕ) (p : Statement) (first : Selection) (ws : List Selection)
    → IsOwn T c d p → turns n ≡ first ∷ ws → step T (row.do_every_count (kernel c) n d p) Start E
    ≡ begins (renewing_down first) (halts_behind (step T p Start E))
do_starts T E c n d p first ws own turned =
    ap (wrap Inside)
    (at_start T E c n d (with_halt p) first ws (own_behind T c d p own) turned
    ∙ ap (option_map (inside (counting_down first))) (halts_at (step T p Start E)))
    ∙ wrap_inside Inside (counting_down first) (halts_behind (step T p Start E))

pub do_resumes : (T : Table) (E : Env) (c n : ℕ) (d : Expr ℕ) (p : Statement) (first w : Selection)
    (ws rest : List Selection) (k : Selection) → IsOwn T c d p → turns n ≡ first ∷ ws → Turn (turns n) w rest
    → step T (row.do_every_count (kernel c) n d p) (Resume (renewing_down w k)) E
    ≡ then_start Inside Inside
    (by_test (test d E) (counted_down rest (killed (with_halt p) k) (step T (with_halt p) (Resume k) E))
    (option_map (λ a. then_fault (test d E) (inside (counting_down w) a)) (step T (with_halt p) (Resume k) E)))
    (option_map (inside (counting_down first)) (halts_behind (step T p Start E)))
do_resumes T E c n d p first w ws rest k own turned t =
    ap (λ o. then_start Inside Inside o (step T (row.abort_count (kernel c) n d (with_halt p)) Start E))
    (later T E c n d (with_halt p) w rest k (own_behind T c d p own) t)
    ∙ ap (then_start Inside Inside
    (by_test (test d E) (counted_down rest (killed (with_halt p) k) (step T (with_halt p) (Resume k) E))
    (option_map (λ a. then_fault (test d E) (inside (counting_down w) a)) (step T (with_halt p) (Resume k) E))))
    (at_start T E c n d (with_halt p) first ws (own_behind T c d p own) turned
    ∙ ap (option_map (inside (counting_down first))) (halts_at (step T p Start E)))

pub do_later : (T : Table) (E : Env) (c n : ℕ) (d : Expr ℕ) (p : Statement) (first w : Selection)
    (ws rest : List Selection) (m : Selection) → IsOwn T c d p → turns n ≡ first ∷ ws → Turn (turns n) w rest
    → StaysIn (step T p (Resume m) E)
    → step T (row.do_every_count (kernel c) n d p) (Resume (renewing_down w (First m))) E
    ≡ renews_counted renewing_down (test d E) first w rest (killed p m) (halts_behind (step T p (Resume m) E))
    (halts_behind (step T p Start E))
do_later T E c n d p first w ws rest m own turned t h =
    do_resumes T E c n d p first w ws rest (First m) own turned t
    ∙ ap (λ s. then_start Inside Inside
    (by_test (test d E) (counted_down rest (killed p m) s)
    (option_map (λ a. then_fault (test d E) (inside (counting_down w) a)) s))
    (option_map (inside (counting_down first)) (halts_behind (step T p Start E))))
    (halts_at (step T p (Resume m) E))
    ∙ renewal first w rest (map stopped (held_touches p m)) (test d E) (halts_behind (step T p (Resume m) E))
    (halts_behind (step T p Start E)) (going (step T p (Resume m) E) h)

pub do_idle : (T : Table) (E : Env) (c n : ℕ) (d : Expr ℕ) (p : Statement) (first w : Selection)
    (ws rest : List Selection) → IsOwn T c d p → turns n ≡ first ∷ ws → Turn (turns n) w rest
    → step T (row.do_every_count (kernel c) n d p) (Resume (renewing_down w idle)) E
    ≡ renews_counted renewing_down (test d E) first w rest (completes 0) (Some (rests idle []))
    (halts_behind (step T p Start E))
do_idle T E c n d p first w ws rest own turned t =
    do_resumes T E c n d p first w ws rest idle own turned t
    ∙ renewal first w rest [] (test d E) (Some (rests idle [])) (halts_behind (step T p Start E)) refl

pub do_expands : (modules : ℕ → Piece) (pos : Pos) (i : ℕ) (d : Expr ℕ) (p : Piece) (a : Around) (n : Numbered)
    → StandsBelow pos p d a n
    → unplaced (row.do_every_count (numbering modules pos) i d p a n).0
    ≡ row.do_every_count (kernel (length n.signals)) i (in_numbers n d) (counted_body pos p a n)
do_expands modules pos i d p a n s =
    let k = numbering modules pos in
    ap (λ x. Loop x) (counted_expands modules pos i d (k.seq p (row.halt k)) a n (record { kept = s.kept }))

-- ---- `every`

anew_behind : (first : Selection) (rest : List Selection) (kill : Stepped) (s q : Option Stepped)
    → wrap Second (counted_anew renewing_down first rest kill s q)
    ≡ counted_anew repeating_down first rest kill s q
anew_behind first [] kill s None = refl
anew_behind first [] kill s (Some b) =
    ap (λ (x : Stepped). Some x)
    (same_steps (wrapped Second (joined kill (inside (renewing_down first) b)))
    (joined kill (inside (repeating_down first) b)) refl refl (marks_twice Second (renewing_down first) b.next)
    refl refl refl)
anew_behind first (w ∷ rest) kill s q = wrap_inside Second (renewing_down w) s

flag_behind : (b : Bool) (x y p q : Option Stepped) → wrap Second x ≡ p → wrap Second y ≡ q
    → wrap Second (cond b x y) ≡ cond b p q
flag_behind true x y p q h g = h
flag_behind false x y p q h g = g

test_behind : (c : Cell) (x y p q : Option Stepped) → wrap Second x ≡ p → wrap Second y ≡ q
    → wrap Second (by_test c x y) ≡ by_test c p q
test_behind cell.Unknown x y p q h g = refl
test_behind (cell.Known v) x y p q h g = flag_behind (truth v) x y p q h g
test_behind (cell.Faulted o k) x y p q h g = g

pub renews_behind : (c : Cell) (first w : Selection) (rest : List Selection) (kill : Stepped) (s q : Option Stepped)
    → wrap Second (renews_counted renewing_down c first w rest kill s q)
    ≡ renews_counted repeating_down c first w rest kill s q
renews_behind c first w rest kill s q =
    test_behind c (counted_anew renewing_down first rest kill s q)
    (option_map (λ a. then_fault c (inside (renewing_down w) a)) s)
    (counted_anew repeating_down first rest kill s q)
    (option_map (λ a. then_fault c (inside (repeating_down w) a)) s) (anew_behind first rest kill s q)
    (wrap_watched Second (renewing_down w) c s)

begun_behind : (f : Selection → Selection) (o : Option Stepped)
    → then_start First Second (Some (completes 0)) (begins f o) ≡ begins (λ m. Second (f m)) o
begun_behind f None = refl
begun_behind f (Some a) =
    ap (λ (x : Stepped). Some x)
    (same_steps (joined (completes 0) (wrapped Second (inside f a))) (inside (λ m. Second (f m)) a) refl refl
    (marks_twice Second f a.next) refl refl refl)

first_behind : (first : Selection) (rest : List Selection) (q : Option Stepped)
    → then_start First Second (goes_to rest) (begins (renewing_down first) q)
    ≡ counted_first repeating_down first rest q
first_behind first [] q = begun_behind (renewing_down first) q
first_behind first (w ∷ rest) q = refl

waits_then : (first w : Selection) (rest : List Selection) (c : Cell) (q : Option Stepped)
    → then_start First Second (on_test c (goes_to rest) (Some (rests w []))) (begins (renewing_down first) q)
    ≡ on_test c (counted_first repeating_down first rest q) (Some (rests (First w) []))
waits_then first w rest c q =
    through_test (λ x. then_start First Second x (begins (renewing_down first) q)) c (goes_to rest)
    (Some (rests w [])) (counted_first repeating_down first rest q) (Some (rests (First w) [])) refl
    (first_behind first rest q) refl (λ o k. refl)

pub every_before : (T : Table) (E : Env) (c n : ℕ) (d : Expr ℕ) (p : Statement) (first w : Selection)
    (ws rest : List Selection) → IsOwn T c d p → turns n ≡ first ∷ ws → Turn (turns n) w rest
    → step T (row.every_count (kernel c) n d p) (Resume (First w)) E
    ≡ on_test (test d E) (counted_first repeating_down first rest (halts_behind (step T p Start E)))
    (Some (rests (First w) []))
every_before T E c n d p first w ws rest own turned t =
    ap (λ o. then_start First Second o (step T (row.do_every_count (kernel c) n d p) Start E))
    ((count_waits T n d).resume E w rest t)
    ∙ ap (then_start First Second (on_test (test d E) (goes_to rest) (Some (rests w []))))
    (do_starts T E c n d p first ws own turned)
    ∙ waits_then first w rest (test d E) (halts_behind (step T p Start E))

pub every_starts : (T : Table) (E : Env) (c n : ℕ) (d : Expr ℕ) (p : Statement) (first : Selection)
    (ws : List Selection) → turns n ≡ first ∷ ws
    → step T (row.every_count (kernel c) n d p) Start E ≡ Some (rests (First first) [])
every_starts T E c n d p first ws turned =
    ap (λ o. then_start First Second o (step T (row.do_every_count (kernel c) n d p) Start E))
    ((count_waits T n d).start E ∙ ap goes_to turned)

pub every_expands : (modules : ℕ → Piece) (pos : Pos) (i : ℕ) (d : Expr ℕ) (p : Piece) (a : Around) (n : Numbered)
    → StandsBelow pos p d a n
    → unplaced (row.every_count (numbering modules pos) i d p a n).0
    ≡ row.every_count (kernel (length n.signals)) i (in_numbers n d) (counted_body pos p a n)
every_expands modules pos i d p a n s =
    let k = numbering modules pos in
    let w = count_stands modules pos i d a n in
    ap (λ x. Seq x (unplaced (row.do_every_count k i d p a (row.await_count k i d a n).1).0)) w.same
    ∙ ap (λ (m : Numbered). Seq (row.await_count plain i (in_numbers n d))
    (unplaced (row.do_every_count k i d p a m).0)) w.numbers
    ∙ ap (λ x. Seq (row.await_count plain i (in_numbers n d)) x) (do_expands modules pos i d p a n s)
