-- Two meanings of the kernel statements that correspond give meanings of each statement that correspond.
use Rattle.std.proofs.Common.{◌≡◌, ℕ, zero, suc, ◌+◌, ◌/◌, Bool, true, false, List, [], ◌∷◌, length, take}
use Rattle.std.proofs.Common.{drop, replicate, Option, refl, ap, subst}
use Rattle.std.specs.List.{AllZip}
use Rattle.host_expr.specs.declared.expr.Expr.{Expr}
use Rattle.module_tree.specs.declared.source.SignalNode.{SignalNode}
use Rattle.module_tree.specs.declared.source.Later.{Later}
use Rattle.module_tree.specs.declared.source.Later.TheVariants as later
use Rattle.module_tree.specs.declared.source.Delay.{Delay}
use Rattle.module_tree.specs.declared.source.Delay.TheVariants as delay
use Rattle.module_tree.specs.declared.source.AsyncNode.{AsyncNode}
use Rattle.kernel_expand.specs.Operations.{Operations}
use Rattle.kernel_expand.specs.Halves.{halved, in_halves}
use Rattle.kernel_expand.specs.Rows as row
use Rattle.kernel_expand.specs.Interpretation as tree
use Rattle.kernel_expand.specs.Interpretation.{test_of}

-- each operation but `run` takes parts that correspond to statements that correspond
pub record Alike {X Y : Type 0} (R : X → Y → Type 0) (k : Operations X) (l : Operations Y) : Type 0 where
  pub nothing : R k.nothing l.nothing
  pub pause : R k.pause l.pause
  pub emit : (s : ℕ) (e : Option (Expr ℕ)) → R (k.emit s e) (l.emit s e)
  pub choice : (d : Expr ℕ) (p : X) (p' : Y) (q : X) (q' : Y) → R p p' → R q q'
      → R (k.choice d p q) (l.choice d p' q')
  pub suspend : (d : Expr ℕ) (p : X) (p' : Y) → R p p' → R (k.suspend d p) (l.suspend d p')
  pub seq : (p : X) (p' : Y) (q : X) (q' : Y) → R p p' → R q q' → R (k.seq p q) (l.seq p' q')
  pub par : (p : X) (p' : Y) (q : X) (q' : Y) → R p p' → R q q' → R (k.par p q) (l.par p' q')
  pub loop : (p : X) (p' : Y) → R p p' → R (k.loop p) (l.loop p')
  pub local : (d : SignalNode) (p : X) (p' : Y) → R p p' → R (k.local d p) (l.local d p')
  pub async : (a : AsyncNode ℕ) → R (k.async a) (l.async a)
  pub trap : (p : X) (p' : Y) → R p p' → R (k.trap p) (l.trap p')
  pub exit : R k.exit l.exit
  pub named_trap : (p : X) (p' : Y) → R p p' → R (k.named_trap p) (l.named_trap p')
  pub leave : (t : ℕ) → R (k.leave t) (l.leave t)
  pub counter : (p : X) (p' : Y) → R p p' → R (k.counter p) (l.counter p')
  pub suspend_counted : (p : X) (p' : Y) → R p p' → R (k.suspend_counted p) (l.suspend_counted p')
  pub emit_counter : R k.emit_counter l.emit_counter

-- ---- lists in halves

zip_length : {X Y : Type 0} (R : X → Y → Type 0) (xs : List X) (ys : List Y) → AllZip R xs ys
    → length xs ≡ length ys
zip_length R [] [] z = refl
zip_length R (x ∷ xs) (y ∷ ys) z = ap suc (zip_length R xs ys z.1)
zip_length R [] (y ∷ ys) z = absurd z
zip_length R (x ∷ xs) [] z = absurd z

zip_take : {X Y : Type 0} (R : X → Y → Type 0) (n : ℕ) (xs : List X) (ys : List Y) → AllZip R xs ys
    → AllZip R (take n xs) (take n ys)
zip_take R zero xs ys z = tt
zip_take R (suc n) [] [] z = tt
zip_take R (suc n) (x ∷ xs) (y ∷ ys) z = (z.0, zip_take R n xs ys z.1)
zip_take R (suc n) [] (y ∷ ys) z = absurd z
zip_take R (suc n) (x ∷ xs) [] z = absurd z

zip_drop : {X Y : Type 0} (R : X → Y → Type 0) (n : ℕ) (xs : List X) (ys : List Y) → AllZip R xs ys
    → AllZip R (drop n xs) (drop n ys)
zip_drop R zero xs ys z = z
zip_drop R (suc n) [] [] z = tt
zip_drop R (suc n) (x ∷ xs) (y ∷ ys) z = zip_drop R n xs ys z.1
zip_drop R (suc n) [] (y ∷ ys) z = absurd z
zip_drop R (suc n) (x ∷ xs) [] z = absurd z

module _ {X Y : Type 0} (R : X → Y → Type 0) (f : X → X → X) (g : Y → Y → Y) (e : X) (d : Y) (none : R e d)
    (join : (p : X) (p' : Y) (q : X) (q' : Y) → R p p' → R q q' → R (f p q) (g p' q')) where
  halved_alike : (n : ℕ) (xs : List X) (ys : List Y) → AllZip R xs ys → R (halved f e n xs) (halved g d n ys)
  unfolding halved
  halved_alike zero xs ys z = none
  halved_alike (suc n) [] [] z = none
  halved_alike (suc n) [] (y ∷ ys) z = absurd z
  halved_alike (suc n) (x ∷ xs) [] z = absurd z
  halved_alike (suc n) (x ∷ []) (y ∷ []) z = z.0
  halved_alike (suc n) (x ∷ []) (y ∷ v ∷ ys) z = absurd z.1
  halved_alike (suc n) (x ∷ u ∷ xs) (y ∷ []) z = absurd z.1
  halved_alike (suc n) (x ∷ u ∷ xs) (y ∷ v ∷ ys) z =
      let m = (length (x ∷ u ∷ xs) + 1) / 2 in
      let same : m ≡ (length (y ∷ v ∷ ys) + 1) / 2 =
      ap (λ w. (w + 1) / 2) (zip_length R (x ∷ u ∷ xs) (y ∷ v ∷ ys) z) in
      subst (λ w. R (f (halved f e n (take m (x ∷ u ∷ xs))) (halved f e n (drop m (x ∷ u ∷ xs))))
      (g (halved g d n (take w (y ∷ v ∷ ys))) (halved g d n (drop w (y ∷ v ∷ ys))))) same
      (join _ _ _ _ (halved_alike n (take m (x ∷ u ∷ xs)) (take m (y ∷ v ∷ ys))
      (zip_take R m (x ∷ u ∷ xs) (y ∷ v ∷ ys) z))
      (halved_alike n (drop m (x ∷ u ∷ xs)) (drop m (y ∷ v ∷ ys))
      (zip_drop R m (x ∷ u ∷ xs) (y ∷ v ∷ ys) z)))

  pub halves_alike : (xs : List X) (ys : List Y) → AllZip R xs ys → R (in_halves f e xs) (in_halves g d ys)
  halves_alike xs ys z = subst (λ n. R (in_halves f e xs) (halved g d n ys)) (zip_length R xs ys z)
      (halved_alike (length xs) xs ys z)

-- ---- the rows

module _ {X Y : Type 0} (R : X → Y → Type 0) (k : Operations X) (l : Operations Y) (a : Alike R k l) where
  pub listed : (xs : List X) (ys : List Y) → AllZip R xs ys → R (row.listed k xs) (row.listed l ys)
  listed = halves_alike R k.seq l.seq k.nothing l.nothing a.nothing a.seq

  pub forked : (xs : List X) (ys : List Y) → AllZip R xs ys → R (row.forked k xs) (row.forked l ys)
  forked = halves_alike R k.par l.par k.nothing l.nothing a.nothing a.par

  copies : (n : ℕ) (x : X) (y : Y) → R x y → AllZip R (replicate n x) (replicate n y)
  copies zero x y r = tt
  copies (suc n) x y r = (r, copies n x y r)

  pub halt : R (row.halt k) (row.halt l)
  halt = a.loop _ _ a.pause

  exits : (d : Expr ℕ) → R (k.choice d k.exit k.nothing) (l.choice d l.exit l.nothing)
  exits d = a.choice d _ _ _ _ a.exit a.nothing

  waiting : (d : Expr ℕ) → R (row.waiting k d) (row.waiting l d)
  waiting d = a.loop _ _ (a.seq _ _ _ _ a.pause (exits d))

  waiting_now : (d : Expr ℕ) → R (row.waiting_now k d) (row.waiting_now l d)
  waiting_now d = a.loop _ _ (a.seq _ _ _ _ (exits d) a.pause)

  await_once : (d : Expr ℕ) → R (row.await k d) (row.await l d)
  await_once d = a.trap _ _ (waiting d)

  await_count : (n : ℕ) (d : Expr ℕ) → R (row.await_count k n d) (row.await_count l n d)
  await_count n d = listed _ _ (copies n _ _ (await_once d))

  pub await : (d : Delay ℕ) → R (tree.await k d) (tree.await l d)
  await (delay.Later (later.Once x)) = await_once (test_of x)
  await (delay.Later (later.Count n x)) = await_count n (test_of x)
  await (delay.Immediate x) = a.trap _ _ (waiting_now (test_of x))

  abort_once : (d : Expr ℕ) (p : X) (p' : Y) → R p p' → R (row.abort k d p) (row.abort l d p')
  abort_once d p p' r = a.trap _ _ (a.par _ _ _ _ (a.seq _ _ _ _ (a.suspend d _ _ r) a.exit) (waiting d))

  abort_count : (n : ℕ) (d : Expr ℕ) (p : X) (p' : Y) → R p p'
      → R (row.abort_count k n d p) (row.abort_count l n d p')
  abort_count n d p p' r =
      a.trap _ _ (a.counter _ _ (a.par _ _ _ _ (a.seq _ _ _ _ (a.suspend_counted _ _ r) a.exit)
      (listed (row.await_count k n d ∷ k.emit_counter ∷ k.exit ∷ []) (row.await_count l n d
      ∷ l.emit_counter ∷ l.exit ∷ []) (await_count n d, (a.emit_counter, (a.exit, tt))))))

  pub abort : (d : Delay ℕ) (p : X) (p' : Y) → R p p' → R (tree.abort k d p) (tree.abort l d p')
  abort (delay.Later (later.Once x)) p p' r = abort_once (test_of x) p p' r
  abort (delay.Later (later.Count n x)) p p' r = abort_count n (test_of x) p p' r
  abort (delay.Immediate x) p p' r = a.choice (test_of x) _ _ _ _ a.nothing (abort_once (test_of x) p p' r)

  beside : (p : X) (p' : Y) (w : X) (w' : Y) → R p p' → R w w'
      → R (k.trap (k.par (k.seq p k.exit) w)) (l.trap (l.par (l.seq p' l.exit) w'))
  beside p p' w w' r s = a.trap _ _ (a.par _ _ _ _ (a.seq _ _ _ _ r a.exit) s)

  pub weak_abort : (d : Delay ℕ) (p : X) (p' : Y) → R p p'
      → R (tree.weak_abort k d p) (tree.weak_abort l d p')
  weak_abort (delay.Later (later.Once x)) p p' r = beside _ _ _ _ r (waiting (test_of x))
  weak_abort (delay.Later (later.Count n x)) p p' r =
      beside _ _ _ _ r (a.seq _ _ _ _ (await_count n (test_of x)) a.exit)
  weak_abort (delay.Immediate x) p p' r = beside _ _ _ _ r (waiting_now (test_of x))

  pub suspend : (immediate : Bool) (d : Expr ℕ) (p : X) (p' : Y) → R p p'
      → R (tree.suspend k immediate d p) (tree.suspend l immediate d p')
  suspend false d p p' r = a.suspend d _ _ r
  suspend true d p p' r = a.suspend d _ _ (a.seq _ _ _ _ (a.choice d _ _ _ _ a.pause a.nothing) r)

  halted : (p : X) (p' : Y) → R p p' → R (k.seq p (row.halt k)) (l.seq p' (row.halt l))
  halted p p' r = a.seq _ _ _ _ r halt

  do_once : (d : Expr ℕ) (p : X) (p' : Y) → R p p' → R (row.do_every k d p) (row.do_every l d p')
  do_once d p p' r = a.loop _ _ (abort_once d _ _ (halted p p' r))

  do_count : (n : ℕ) (d : Expr ℕ) (p : X) (p' : Y) → R p p'
      → R (row.do_every_count k n d p) (row.do_every_count l n d p')
  do_count n d p p' r = a.loop _ _ (abort_count n d _ _ (halted p p' r))

  pub do_every : (d : Later ℕ) (p : X) (p' : Y) → R p p' → R (tree.do_every k d p) (tree.do_every l d p')
  do_every (later.Once x) p p' r = do_once (test_of x) p p' r
  do_every (later.Count n x) p p' r = do_count n (test_of x) p p' r

  pub every : (d : Delay ℕ) (p : X) (p' : Y) → R p p' → R (tree.every k d p) (tree.every l d p')
  every (delay.Later (later.Once x)) p p' r = a.seq _ _ _ _ (await_once (test_of x))
      (do_once (test_of x) p p' r)
  every (delay.Later (later.Count n x)) p p' r = a.seq _ _ _ _ (await_count n (test_of x))
      (do_count n (test_of x) p p' r)
  every (delay.Immediate x) p p' r = a.seq _ _ _ _ (a.trap _ _ (waiting_now (test_of x)))
      (do_once (test_of x) p p' r)

  pub locals : (ds : List SignalNode) (p : X) (p' : Y) → R p p' → R (tree.locals k ds p) (tree.locals l ds p')
  locals [] p p' r = r
  locals (d ∷ ds) p p' r = a.local d _ _ (locals ds p p' r)

  pub sustain : (s : ℕ) (e : Option (Expr ℕ)) → R (row.sustain k s e) (row.sustain l s e)
  sustain s e = a.loop _ _ (a.seq _ _ _ _ (a.emit s e) a.pause)
