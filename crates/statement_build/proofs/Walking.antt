-- Pieces of an expansion that are numbered one after the other, and the rows of derived statements as the
-- statements that they make.
use Rattle.std.proofs.Common.{◌≡◌, ℕ, zero, suc, ◌+◌, ◌/◌, ◌≤◌, List, [], ◌∷◌, ◌++◌, length, take, drop, min, None}
use Rattle.std.proofs.Common.{replicate, refl, sym, ap, ◌∙◌, arith}
use Rattle.std.specs.List.{range_with_len}
use Rattle.std.proofs.lemmas.List.{length-append, length-take, length-drop, take_at, drop_at}
use Rattle.hh_base.specs.declared.value.Pos.{Pos}
use Rattle.host_expr.specs.declared.expr.Expr.{Expr}
use Rattle.module_tree.specs.declared.source.SignalNode.{SignalNode}
use Rattle.module_tree.specs.declared.source.Later.TheVariants as later
use Rattle.module_tree.specs.declared.source.Delay.{Delay}
use Rattle.module_tree.specs.declared.source.Delay.TheVariants as delay
use Rattle.hh_term.specs.Placed.{Placed, Nothing, Emit, Suspend, Seq, Par, Trap, Exit, Local}
use Rattle.kernel_expand.specs.declared.forms.Join.TheVariants as join
use Rattle.kernel_expand.specs.Forms as form
use Rattle.statement_build.specs.Forms as built
use Rattle.statement_build.specs.Building.{declared_all}
use Rattle.kernel_expand.specs.Halves.{halved, in_halves}
use Rattle.kernel_expand.specs.Rows as row
use Rattle.kernel_expand.specs.Interpretation as tree
use Rattle.kernel_expand.specs.Interpretation.{test_of}
use Rattle.kernel_expand.specs.Numbering.{Around, Numbered, Piece, alone, of_two, in_numbers, in_trap, numbering}
use Rattle.kernel_expand.specs.Numbering.{local_signal, with_place, counter_signal, with_signal}

-- what pieces make one after the other
abbrev pub walked : List Piece → Around → Numbered → List Placed × Numbered
walked [] a n = ([], n)
walked (p ∷ ps) a n = let x = p a n in let y = walked ps a x.1 in (x.0 ∷ y.0, y.1)

pub walked_more : (ps : List Piece) (p : Piece) (a : Around) (n : Numbered)
    → walked (ps ++ p ∷ []) a n ≡ (
      (walked ps a n).0 ++ (p a (walked ps a n).1).0 ∷ [],
      (p a (walked ps a n).1).1,
    )
walked_more [] p a n = refl
walked_more (q ∷ ps) p a n =
    let x = q a n in
    ap (λ (z : List Placed × Numbered). (x.0 ∷ z.0, z.1)) (walked_more ps p a x.1)

walked_parts : (i : ℕ) (ps : List Piece) (a : Around) (n : Numbered)
    → walked ps a n ≡ (
      (walked (take i ps) a n).0 ++ (walked (drop i ps) a (walked (take i ps) a n).1).0,
      (walked (drop i ps) a (walked (take i ps) a n).1).1,
    )
walked_parts zero ps a n = refl
walked_parts (suc i) [] a n = refl
walked_parts (suc i) (p ∷ ps) a n =
    let x = p a n in
    ap (λ (z : List Placed × Numbered). (x.0 ∷ z.0, z.1)) (walked_parts i ps a x.1)

walked_long : (ps : List Piece) (a : Around) (n : Numbered) → length (walked ps a n).0 ≡ length ps
walked_long [] a n = refl
walked_long (p ∷ ps) a n = ap suc (walked_long ps a (p a n).1)

-- a list of pieces by its halves is the list of what they make by its halves
module _ (join : Placed → Placed → Placed) (none : Placed) where
  abbrev two_pieces : Piece → Piece → Piece
  two_pieces = of_two (λ n p q. join p q)

  abbrev no_piece : Piece
  no_piece = alone (λ n. none)

  halved_walk : (i : ℕ) (ps : List Piece) (a : Around) (n : Numbered) → length ps ≤ i
      → halved two_pieces no_piece i ps a n ≡ (halved join none i (walked ps a n).0, (walked ps a n).1)
  unfolding halved
  halved_walk zero [] a n le = refl
  halved_walk zero (p ∷ ps) a n le = absurd (let no : ⊥ = omega arith in no)
  halved_walk (suc i) [] a n le = refl
  halved_walk (suc i) (p ∷ []) a n le = refl
  halved_walk (suc i) (p ∷ q ∷ ps) a n le =
      let all = p ∷ q ∷ ps in
      let half = (length all + 1) / 2 in
      let front = walked (take half all) a n in
      let back = walked (drop half all) a front.1 in
      let whole = (walked all a n).0 in
      let parts = walked_parts half all a n in
      let many : length front.0 ≡ half = walked_long (take half all) a n ∙ length-take half all
      ∙ (let most : min half (length all) ≡ half = omega arith in most) in
      let same : (length whole + 1) / 2 ≡ half = ap (λ z. (z + 1) / 2) (walked_long all a n) in
      let first : take ((length whole + 1) / 2) whole ≡ front.0 = ap (λ z. take z whole) same
      ∙ ap (λ (z : List Placed × Numbered). take half z.0) parts ∙ take_at front.0 back.0 half many in
      let second : drop ((length whole + 1) / 2) whole ≡ back.0 = ap (λ z. drop z whole) same
      ∙ ap (λ (z : List Placed × Numbered). drop half z.0) parts ∙ drop_at front.0 back.0 half many in
      let one = halved_walk i (take half all) a n (omega (arith, length-take half all)) in
      let other = halved_walk i (drop half all) a front.1 (omega (arith, length-drop half all)) in
      ap (λ (x : Placed × Numbered). (
        join x.0 (halved two_pieces no_piece i (drop half all) a x.1).0,
        (halved two_pieces no_piece i (drop half all) a x.1).1,
      )) one
      ∙ ap (λ (y : Placed × Numbered). (join (halved join none i front.0) y.0, y.1)) other
      ∙ (λ j. (join (halved join none i (sym first j)) (halved join none i (sym second j)), (sym parts j).1))

  pub halves_walk : (ps : List Piece) (a : Around) (n : Numbered)
      → in_halves two_pieces no_piece ps a n ≡ (in_halves join none (walked ps a n).0, (walked ps a n).1)
  halves_walk ps a n = halved_walk (length ps) ps a n (omega arith)
      ∙ ap (λ i. (halved join none i (walked ps a n).0, (walked ps a n).1)) (sym (walked_long ps a n))

-- ---- local signals

pub declared_more : (ds : List SignalNode) (d : SignalNode) (n : Numbered)
    → declared_all (ds ++ d ∷ []) n ≡ with_place (local_signal d) (declared_all ds n)
declared_more [] d n = refl
declared_more (e ∷ ds) d n = declared_more ds d (with_place (local_signal e) n)

pub declared_many : (ds : List SignalNode) (n : Numbered)
    → length (declared_all ds n).signals ≡ length n.signals + length ds
declared_many [] n = omega arith
declared_many (d ∷ ds) n =
    let m = with_place (local_signal d) n in
    let more : length m.signals ≡ length n.signals + 1 = length-append n.signals (local_signal d ∷ []) in
    let rest = declared_many ds m in
    omega (arith, more, rest)

pub range_more : (s i : ℕ) → range_with_len s (i + 1) ≡ range_with_len s i ++ (s + i) ∷ []
range_more s zero =
    let here : s ≡ s + 0 = omega arith in
    ap (λ z. z ∷ []) here
range_more s (suc i) =
    let next : (s + 1) + i ≡ s + suc i = omega arith in
    let many : suc i + 1 ≡ suc (i + 1) = omega arith in
    ap (range_with_len s) many ∙ ap (λ z. s ∷ z) (range_more (s + 1) i)
    ∙ ap (λ z. s ∷ (range_with_len (s + 1) i ++ z ∷ [])) next

pub innermost : (at : Pos) (ss : List ℕ) (s : ℕ) (t : Placed) → built.nested at (ss ++ s ∷ []) t
    ≡ built.nested at ss (Local at s t)
innermost at [] s t = refl
innermost at (r ∷ ss) s t = ap (Local at r) (innermost at ss s t)

-- ---- the rows

module _ (f : ℕ → Piece) (pos : Pos) where
  pub listed_is : (ps : List Piece) (a : Around) (n : Numbered) → row.listed (numbering f pos) ps a n
      ≡ (form.joined join.Sequence pos (walked ps a n).0, (walked ps a n).1)
  listed_is ps a n = halves_walk (Seq pos) (Nothing pos) ps a n

  pub forked_is : (ps : List Piece) (a : Around) (n : Numbered) → row.forked (numbering f pos) ps a n
      ≡ (form.joined join.Parallel pos (walked ps a n).0, (walked ps a n).1)
  forked_is ps a n = halves_walk (Par pos) (Nothing pos) ps a n

  copies_walked : (i : ℕ) (p : Piece) (t : Placed) (a : Around) (n : Numbered) → p a n ≡ (t, n)
      → walked (replicate i p) a n ≡ (replicate i t, n)
  copies_walked zero p t a n e = refl
  copies_walked (suc i) p t a n e =
      ap (λ (x : Placed × Numbered). (x.0 ∷ (walked (replicate i p) a x.1).0, (walked (replicate i p) a x.1).1)) e
      ∙ ap (λ (y : List Placed × Numbered). (t ∷ y.0, y.1)) (copies_walked i p t a n e)

  pub await_count_is : (i : ℕ) (d : Expr ℕ) (a : Around) (n : Numbered)
      → row.await_count (numbering f pos) i d a n ≡ (form.awaits pos i (in_numbers n d), n)
  await_count_is i d a n = listed_is (replicate i (row.await (numbering f pos) d)) a n
      ∙ ap (λ (y : List Placed × Numbered). (form.joined join.Sequence pos y.0, y.1))
      (copies_walked i (row.await (numbering f pos) d) (Trap pos (form.waits pos (in_numbers n d))) a n refl)

  pub await_is : (d : Delay ℕ) (a : Around) (n : Numbered)
      → tree.await (numbering f pos) d a n ≡ (built.awaited pos d n, n)
  await_is (delay.Later (later.Once x)) a n = refl
  await_is (delay.Later (later.Count i x)) a n = await_count_is i (test_of x) a n
  await_is (delay.Immediate x) a n = refl

  pub weak_abort_is : (d : Delay ℕ) (p : Piece) (a : Around) (n : Numbered)
      → tree.weak_abort (numbering f pos) d p a n ≡ (
        form.beside pos (p (in_trap None a) n).0
            (built.watches pos d (p (in_trap None a) n).1),
        (p (in_trap None a) n).1,
      )
  weak_abort_is (delay.Later (later.Once x)) p a n = refl
  weak_abort_is (delay.Later (later.Count i x)) p a n =
      let b = p (in_trap None a) n in
      ap (λ (y : Placed × Numbered). (form.beside pos b.0 (Seq pos y.0 (Exit pos 0)), y.1))
      (await_count_is i (test_of x) (in_trap None a) b.1)
  weak_abort_is (delay.Immediate x) p a n = refl

  pub abort_count_is : (i : ℕ) (d : Expr ℕ) (p : Piece) (a : Around) (n : Numbered)
      → row.abort_count (numbering f pos) i d p a n
      ≡ (let s = length n.signals in let inner : Around = record { traps = None ∷ a.traps; counter = s } in
      let x = p inner (with_signal (counter_signal pos) n) in
      (built.counts pos s i (in_numbers x.1 d) x.0, x.1))
  unfolding halved
  abort_count_is i d p a n =
      let s = length n.signals in
      let inner : Around = record { traps = None ∷ a.traps; counter = s } in
      let x = p inner (with_signal (counter_signal pos) n) in
      ap (λ (y : Placed × Numbered). (
        Trap pos (Local pos s (Par pos (Seq pos (Suspend pos (form.present pos s)
            x.0) (Exit pos 0)) (Seq pos (Seq pos y.0 (Emit pos s None)) (Exit pos 0)))),
        y.1,
      ))
      (await_count_is i d inner x.1)

  pub abort_is : (d : Expr ℕ) (p : Piece) (a : Around) (n : Numbered) → row.abort (numbering f pos) d p a n
      ≡ (
        form.beside pos (Suspend pos (in_numbers n d) (p (in_trap None a) n).0)
            (form.waits pos (in_numbers (p (in_trap None a) n).1 d)),
        (p (in_trap None a) n).1,
      )
  abort_is d p a n = refl

  pub locals_is : (ds : List SignalNode) (p : Piece) (a : Around) (n : Numbered)
      → tree.locals (numbering f pos) ds p a n
      ≡ (
        built.nested pos (range_with_len (length n.signals) (length ds)) (p a (declared_all ds n)).0,
        (p a (declared_all ds n)).1,
      )
  locals_is [] p a n = refl
  locals_is (d ∷ ds) p a n =
      let m = with_place (local_signal d) n in
      let more : length m.signals ≡ length n.signals + 1 = length-append n.signals (local_signal d ∷ []) in
      ap (λ (x : Placed × Numbered). (Local pos (length n.signals) x.0, x.1)) (locals_is ds p a m)
      ∙ ap (λ s. (
        Local pos (length n.signals) (built.nested pos (range_with_len s (length ds))
            (p a (declared_all ds m)).0),
        (p a (declared_all ds m)).1,
      )) more
