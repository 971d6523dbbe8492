-- `await count`: statements that wait one after the other, halved.
use Rattle.std.proofs.Common.{◌≡◌, refl, sym, ap, subst, ◌∙◌, ℕ, zero, suc, ◌+◌, ◌-◌, ◌/◌, ◌≤◌}
use Rattle.std.proofs.Common.{Some, None, List, [], ◌∷◌, ◌++◌, map, length, replicate, arith, length-append}
use Rattle.std.specs.Prelude.{option_map}
use Rattle.std.specs.List.{AllZip}
use Rattle.std.proofs.lemmas.List.{length-map}
use Rattle.hh_base.specs.declared.value.Pos.{Pos}
use Rattle.hh_base.specs.declared.item.Item.{Item}
use Rattle.host_expr.specs.declared.cell.Cell.{Cell}
use Rattle.host_expr.specs.declared.expr.Expr.{Expr}
use Rattle.host_expr.specs.Environment.{Env}
use Rattle.hh_term.specs.Statement.{Statement, Nothing, Seq}
use Rattle.hh_term.specs.Selection.{Selection, First, Second, Start, Resume}
use Rattle.hh_term.specs.Touches.{held_mark}
use Rattle.hh_term.specs.Entering.{with_item}
use Rattle.hh_term.specs.MustCan.{Table}
use Rattle.hh_term.specs.Step.{rests, wrap, then_start, on_test, step}
use Rattle.hh_term.specs.Placed.{unplaced}
use Rattle.kernel_expand.specs.Halves.{in_halves}
use Rattle.kernel_expand.specs.Numbering.{Piece, Around, Numbered, numbering, in_numbers}
use Rattle.kernel_expand.specs.Rows as row
use Rattle.kernel_expand.proofs.Alike.{halves_alike}
use Rattle.kernel_expand.proofs.Balanced.{no_item, one_item, same_items}
use Rattle.derived_laws.specs.Statements.{plain, test}
use Rattle.derived_laws.specs.Resting.{RestsAt}
use Rattle.derived_laws.specs.Waits.{awaiting}
use Rattle.derived_laws.specs.Counts.{AwaitCountObeys, one_after_other, turns, Turn, now, later, goes_to}
use Rattle.derived_laws.proofs.Marks.{AnyMark, NextMark, kept}
use Rattle.derived_laws.proofs.Waiting.{through_test, await_resumes}
use Rattle.derived_laws.proofs.Aborting.{test_next}

-- ---- how many

turns_of : (bound n : ℕ) → n ≤ bound → length (in_halves one_after_other [] (replicate n (awaiting ∷ []))) ≡ n
turns_of bound zero le = ap length (no_item one_after_other [] (replicate 0 (awaiting ∷ [])) refl)
turns_of bound (suc zero) le = ap length (one_item one_after_other [] (awaiting ∷ []))
turns_of zero (suc (suc n)) le = absurd (let no : ⊥ = omega arith in no)
turns_of (suc bound) (suc (suc n)) le =
    let half : ℕ = suc (suc n) / 2 in
    let x : List Selection = awaiting ∷ [] in
    let ms : List Selection = in_halves one_after_other [] (replicate (suc (suc n) - half) x) in
    let ns : List Selection = in_halves one_after_other [] (replicate half x) in
    let left : length ms ≡ suc (suc n) - half = turns_of bound (suc (suc n) - half) (omega arith) in
    let right : length ns ≡ half = turns_of bound half (omega arith) in
    let sum : length ms + length ns ≡ suc (suc n) = omega (arith, left, right) in
    ap length (same_items one_after_other [] x (suc (suc n)) half (omega arith) refl)
    ∙ length-append (map First ms) (map Second ns)
    ∙ ap (λ k. k + length (map Second ns)) (length-map ms First)
    ∙ ap (λ k. length ms + k) (length-map ns Second) ∙ sum

-- ---- one of the marks of two statements

pub data Either (ms ns : List Selection) : Selection → List Selection → Type 0 where
  left : (m : Selection) (rest : List Selection) → Turn ms m rest
      → Either ms ns (First m) (map First rest ++ map Second ns)
  right : (n : Selection) (rest : List Selection) → Turn ns n rest → Either ms ns (Second n) (map Second rest)

more : (k m : Selection) (ms ns rest : List Selection) → Either ms ns m rest → Either (k ∷ ms) ns m rest
more k m ms ns rest (left n r t) = left n r (later k n ms r t)
more k m ms ns rest (right n r t) = right n r t

second_more : (n m : Selection) (ns rest : List Selection) → Either [] ns m rest → Either [] (n ∷ ns) m rest
second_more n m ns rest (left k r t) = elim t [ ]
second_more n m ns rest (right k r t) = right k r (later n k ns r t)

in_second : (ns : List Selection) (m : Selection) (rest : List Selection) → Turn (map Second ns) m rest
    → Either [] ns m rest
in_second [] m rest t = elim t [ ]
in_second (n ∷ ns) m rest (now k ms) = right n ns (now n ns)
in_second (n ∷ ns) m rest (later k j ms r t) = second_more n m ns rest (in_second ns m rest t)

pub either : (ms ns : List Selection) (m : Selection) (rest : List Selection) → Turn (one_after_other ms ns) m rest
    → Either ms ns m rest
either [] ns m rest t = in_second ns m rest t
either (k ∷ ms) ns m rest (now j js) = left k ms (now k ms)
either (k ∷ ms) ns m rest (later j i js r t) = more k m ms ns rest (either ms ns m rest t)

-- ---- what waits at these marks in turn

pub record Waits (T : Table) (d : Expr ℕ) (p : Statement) (ms : List Selection) : Type 0 where
  pub start : (E : Env) → step T p Start E ≡ goes_to ms
  pub resume : (E : Env) (m : Selection) (rest : List Selection) → Turn ms m rest
      → step T p (Resume m) E ≡ on_test (test d E) (goes_to rest) (Some (rests m []))
  pub hold : (m : Selection) (rest : List Selection) → Turn ms m rest → held_mark m ≡ m
  pub enter : (m : Selection) (rest : List Selection) → Turn ms m rest → (id : ℕ) (a : Item)
      → with_item id a m ≡ None

none_waits : (T : Table) (d : Expr ℕ) → Waits T d Nothing []
none_waits T d = record {
  start = λ E. refl;
  resume = λ E m rest t. elim t [ ];
  hold = λ m rest t. elim t [ ];
  enter = λ m rest t. elim t [ ];
}

one_waits : (T : Table) (d : Expr ℕ) → Waits T d (row.await plain d) (awaiting ∷ [])
one_waits T d = record { start = λ E. refl; resume = resume; hold = hold; enter = enter }
  where
    resume : (E : Env) (m : Selection) (rest : List Selection) → Turn (awaiting ∷ []) m rest
        → step T (row.await plain d) (Resume m) E ≡ on_test (test d E) (goes_to rest) (Some (rests m []))
    resume E m rest (now k ms) = await_resumes T E d
    resume E m rest (later k n ms r t) = elim t [ ]

    hold : (m : Selection) (rest : List Selection) → Turn (awaiting ∷ []) m rest → held_mark m ≡ m
    hold m rest (now k ms) = refl
    hold m rest (later k n ms r t) = elim t [ ]

    enter : (m : Selection) (rest : List Selection) → Turn (awaiting ∷ []) m rest → (id : ℕ) (a : Item)
        → with_item id a m ≡ None
    enter m rest (now k ms) id a = refl
    enter m rest (later k n ms r t) id a = elim t [ ]

then_goes : (rest ns : List Selection)
    → then_start First Second (goes_to rest) (goes_to ns) ≡ goes_to (map First rest ++ map Second ns)
then_goes [] [] = refl
then_goes [] (n ∷ ns) = refl
then_goes (m ∷ rest) ns = refl

behind_goes : (rest : List Selection) → wrap Second (goes_to rest) ≡ goes_to (map Second rest)
behind_goes [] = refl
behind_goes (m ∷ rest) = refl

first_goes : (c : Cell) (m : Selection) (rest ns : List Selection)
    → then_start First Second (on_test c (goes_to rest) (Some (rests m []))) (goes_to ns)
    ≡ on_test c (goes_to (map First rest ++ map Second ns)) (Some (rests (First m) []))
first_goes c m rest ns =
    through_test (λ x. then_start First Second x (goes_to ns)) c (goes_to rest) (Some (rests m []))
    (goes_to (map First rest ++ map Second ns)) (Some (rests (First m) [])) refl (then_goes rest ns) refl
    (λ o k. refl)

second_goes : (c : Cell) (m : Selection) (rest : List Selection)
    → wrap Second (on_test c (goes_to rest) (Some (rests m [])))
    ≡ on_test c (goes_to (map Second rest)) (Some (rests (Second m) []))
second_goes c m rest =
    through_test (wrap Second) c (goes_to rest) (Some (rests m [])) (goes_to (map Second rest))
    (Some (rests (Second m) [])) refl (behind_goes rest) refl (λ o k. refl)

seq_waits : (T : Table) (d : Expr ℕ) (p : Statement) (ms : List Selection) (q : Statement) (ns : List Selection)
    → Waits T d p ms → Waits T d q ns → Waits T d (Seq p q) (one_after_other ms ns)
seq_waits T d p ms q ns h g =
    record {
      start = start;
      resume = λ E m rest t. resume E m rest (either ms ns m rest t);
      hold = λ m rest t. hold m rest (either ms ns m rest t);
      enter = λ m rest t. enter m rest (either ms ns m rest t);
    }
  where
    start : (E : Env) → step T (Seq p q) Start E ≡ goes_to (one_after_other ms ns)
    start E =
        ap (λ x. then_start First Second x (step T q Start E)) (h.start E)
        ∙ ap (then_start First Second (goes_to ms)) (g.start E) ∙ then_goes ms ns

    resume : (E : Env) (m : Selection) (rest : List Selection) → Either ms ns m rest
        → step T (Seq p q) (Resume m) E ≡ on_test (test d E) (goes_to rest) (Some (rests m []))
    resume E m rest (left n r t) =
        ap (λ x. then_start First Second x (step T q Start E)) (h.resume E n r t)
        ∙ ap (then_start First Second (on_test (test d E) (goes_to r) (Some (rests n [])))) (g.start E)
        ∙ first_goes (test d E) n r ns
    resume E m rest (right n r t) = ap (wrap Second) (g.resume E n r t) ∙ second_goes (test d E) n r

    hold : (m : Selection) (rest : List Selection) → Either ms ns m rest → held_mark m ≡ m
    hold m rest (left n r t) = ap First (h.hold n r t)
    hold m rest (right n r t) = ap Second (g.hold n r t)

    enter : (m : Selection) (rest : List Selection) → Either ms ns m rest → (id : ℕ) (a : Item)
        → with_item id a m ≡ None
    enter m rest (left n r t) id a = ap (option_map First) (h.enter n r t id a)
    enter m rest (right n r t) id a = ap (option_map Second) (g.enter n r t id a)

pub each : {X Y : Type 0} (R : X → Y → Type 0) (n : ℕ) (x : X) (y : Y) → R x y
    → AllZip R (replicate n x) (replicate n y)
each R zero x y r = tt
each R (suc n) x y r = (r, each R n x y r)

pub count_waits : (T : Table) (n : ℕ) (d : Expr ℕ) → Waits T d (row.await_count plain n d) (turns n)
count_waits T n d =
    halves_alike (Waits T d) (λ p q. Seq p q) one_after_other Nothing [] (none_waits T d) (seq_waits T d)
    (replicate n (row.await plain d)) (replicate n (awaiting ∷ []))
    (each (Waits T d) n (row.await plain d) (awaiting ∷ []) (one_waits T d))

-- ---- its marks

abbrev pub OneOf : List Selection → Selection → Type 0
OneOf ms m = (rest : List Selection) × Turn ms m rest

pub goes_next : (ms rest : List Selection) → ((m : Selection) (r : List Selection) → Turn rest m r → Turn ms m r)
    → NextMark (OneOf ms) (goes_to rest)
goes_next ms [] h = tt
goes_next ms (m ∷ rest) h = (rest, h m rest (now m rest))

pub turn_behind : (ms : List Selection) (m : Selection) (rest : List Selection) → Turn ms m rest → (n : Selection)
    (r : List Selection) → Turn rest n r → Turn ms n r
turn_behind ms m rest (now k ks) n r t = later k n ks r t
turn_behind ms m rest (later k j ks s u) n r t = later k n ks r (turn_behind ks m rest u n r t)

count_marks : (T : Table) (n : ℕ) (d : Expr ℕ) (m : Selection) → RestsAt T (row.await_count plain n d) m
    → OneOf (turns n) m
count_marks T n d =
    kept T (row.await_count plain n d) (OneOf (turns n))
    (record {
      start = λ E. subst (NextMark (OneOf (turns n))) (sym (w.start E)) (goes_next (turns n) (turns n) (λ m r t. t));
      resume = λ m t E. subst (NextMark (OneOf (turns n))) (sym (w.resume E m t.0 t.1))
          (test_next (OneOf (turns n)) (test d E) (goes_to t.0) (Some (rests m []))
          (goes_next (turns n) t.0 (turn_behind (turns n) m t.0 t.1)) t);
      hold = λ m t. subst (OneOf (turns n)) (sym (w.hold m t.0 t.1)) t;
      enter = λ m t id a. subst (AnyMark (OneOf (turns n))) (sym (w.enter m t.0 t.1 id a)) tt;
    })
  where
    w : Waits T d (row.await_count plain n d) (turns n)
    w = count_waits T n d

-- ---- what its row is in numbers

pub record Stands (a : Around) (n : Numbered) (p : Piece) (q : Statement) : Type 0 where
  pub same : unplaced (p a n).0 ≡ q
  pub numbers : (p a n).1 ≡ n

stands_seq : (modules : ℕ → Piece) (pos : Pos) (a : Around) (n : Numbered) (p : Piece) (p' : Statement) (q : Piece)
    (q' : Statement) → Stands a n p p' → Stands a n q q'
    → Stands a n ((numbering modules pos).seq p q) (Seq p' q')
stands_seq modules pos a n p p' q q' h g =
    record {
      same = ap (λ x. Seq x (unplaced (q a (p a n).1).0)) h.same
          ∙ ap (λ m. Seq p' (unplaced (q a m).0)) h.numbers ∙ ap (λ x. Seq p' x) g.same;
      numbers = ap (λ m. (q a m).1) h.numbers ∙ g.numbers;
    }

pub count_stands : (modules : ℕ → Piece) (pos : Pos) (i : ℕ) (d : Expr ℕ) (a : Around) (n : Numbered)
    → Stands a n (row.await_count (numbering modules pos) i d) (row.await_count plain i (in_numbers n d))
count_stands modules pos i d a n =
    halves_alike (Stands a n) (numbering modules pos).seq (λ p q. Seq p q) (numbering modules pos).nothing Nothing
    (record { same = refl; numbers = refl }) (stands_seq modules pos a n)
    (replicate i (row.await (numbering modules pos) d)) (replicate i (row.await plain (in_numbers n d)))
    (each (Stands a n) i (row.await (numbering modules pos) d) (row.await plain (in_numbers n d))
    (record { same = refl; numbers = refl }))

pub await_count_obeys : AwaitCountObeys
await_count_obeys =
    record {
      counts = λ n. turns_of n n (omega arith);
      at_start = λ T E n d. (count_waits T n d).start E;
      later = λ T E n d m rest t. (count_waits T n d).resume E m rest t;
      marks = count_marks;
      expands = λ modules pos i d a n. (count_stands modules pos i d a n).same;
    }
