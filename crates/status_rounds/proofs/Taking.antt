-- Raises are put into the table one after the other, from the last one on.
use Rattle.std.proofs.Common.{◌≡◌, ◌≢◌, refl, sym, ap, subst, ◌∙◌, ℕ, ◌<◌, ◌⊎◌, inl, inr}
use Rattle.std.proofs.Common.{⊎_elim, Some, List, [], ◌∷◌, ◌++◌, length, map, set, slice_get, arith}
use Rattle.std.proofs.Common.{append_assoc, append-nil, zero, suc, Vec, Global, option_map}
use Rattle.std.proofs.Math.ListN.{length-set}
use Rattle.std.proofs.lemmas.Bool.{cases_lt}
use Rattle.std.proofs.lemmas.Option.{slice_get-map, slice_get_within}
use Rattle.hh_base.specs.declared.value.Tri.{Tri}
use Rattle.host_expr.specs.declared.cell.Cell.{Cell}
use Rattle.status_table.specs.declared.state.Raise.{Raise}
use Rattle.status_table.specs.Flat.{Cells}
use Rattle.status_table.specs.declared.state.Statuses.{Statuses}
use Rattle.status_table.specs.declared.tally.Known.{Known}
use Rattle.status_table.specs.TableView.{cells_in}
use Rattle.status_table.specs.Walking.{AllPut, in_row, of_known}
use Rattle.status_table.proofs.Reading.{set_here, set_other}
use Rattle.std.proofs.lemmas.List.{length-map}
use Rattle.status_rounds.specs.Rounds.{HasPlace, IsPut, Taken, PutsOne, shape_of}

-- of all raises these are left, the others are in the table
pub record Taking (all left : List Raise) (τ τ' : Cells) : Type 0 where
  pub done : List Raise
  pub parts : all ≡ left ++ done
  pub taken : Taken done τ τ'

pub none_taken : (all : List Raise) (τ : Cells) → Taking all all τ τ
none_taken all τ = record { done = []; parts = sym (append-nil all); taken = λ s n. inl (refl, λ v h. h) }

pub same_or_other : (s n : ℕ) → (s ≡ n) ⊎ (s ≢ n)
same_or_other s n = ⊎_elim (λ lt. inr (λ z. absurd (omega (arith, z, lt))))
    (λ le. ⊎_elim (λ gt. inr (λ z. absurd (omega (arith, z, gt)))) (λ ge. inl (omega (arith, le, ge)))
    (cases_lt n s)) (cases_lt s n)

pub one_taken : (all left : List Raise) (r : Raise) (τ0 τ1 τ2 : Cells) → Taking all (left ++ r ∷ []) τ0 τ1 →
    PutsOne
    r τ1 τ2 → Taking all left τ0 τ2
one_taken all left r τ0 τ1 τ2 h g = record {
  done = r ∷ h.done;
  parts = h.parts ∙ append_assoc left (r ∷ []) h.done;
  taken = λ s n. at_place s n (same_or_other s r.signal) (same_or_other n r.level);
}
  where
    away : (s n : ℕ) → (s ≢ r.signal) ⊎ (n ≢ r.level) →
        ((τ2 s n ≡ τ0 s n) × ((v : Tri × Cell) → IsPut (r ∷ h.done) s n v → ⊥)) ⊎ IsPut (r ∷ h.done) s n
        (τ2 s n)
    away s n d =
        let stays : τ2 s n ≡ τ1 s n = g.others s n d in
        ⊎_elim
        (λ x. inl (
          stays ∙ x.0,
          λ v. ⊎_elim
              (λ y. ⊎_elim (λ ns. ns (sym y.0)) (λ nl. nl (sym y.1)) d) (λ y. x.1 v y),
        ))
        (λ x. inr (inr (subst (IsPut h.done s n) (sym stays) x)))
        (h.taken s n)

    at_place : (s n : ℕ) → (s ≡ r.signal) ⊎ (s ≢ r.signal) → (n ≡ r.level) ⊎ (n ≢ r.level) →
        ((τ2 s n ≡ τ0 s n) × ((v : Tri × Cell) → IsPut (r ∷ h.done) s n v → ⊥)) ⊎ IsPut (r ∷ h.done) s n
        (τ2 s n)
    at_place s n (inl e) (inl f) = inr (inl (sym e, sym f, ap (τ2 s) f ∙ ap (λ z. τ2 z r.level) e ∙ g.here))
    at_place s n (inr d) f = away s n (inl d)
    at_place s n (inl e) (inr d) = away s n (inr d)

pub all_taken : (all : List Raise) (τ τ' : Cells) → Taking all [] τ τ' → Taken all τ τ'
all_taken all τ τ' h = subst (λ rs. Taken rs τ τ') (sym h.parts) h.taken

-- ---- facts of all raises

pub put_parts : (Q : ℕ → ℕ → Tri × Cell → Type 0) (xs : List Raise) (x : Raise) → AllPut Q (xs ++ x ∷ []) →
    AllPut Q xs × Q x.signal x.level (x.known.status, x.known.value)
put_parts Q [] x h = (tt, h.0)
put_parts Q (y ∷ xs) x h = let r = put_parts Q xs x h.1 in ((h.0, r.0), r.1)

pub put_same : (Q R : ℕ → ℕ → Tri × Cell → Type 0) (xs : List Raise) → ((s n : ℕ) (v : Tri × Cell) → Q s n v →
    R s
    n v) → AllPut Q xs → AllPut R xs
put_same Q R [] f h = tt
put_same Q R (x ∷ xs) f h = (f x.signal x.level (x.known.status, x.known.value) h.0, put_same Q R xs f h.1)

pub put_at : (Q : ℕ → ℕ → Tri × Cell → Type 0) (xs : List Raise) (s n : ℕ) (v : Tri × Cell) → AllPut Q xs →
    IsPut
    xs s n v → Q s n v
put_at Q [] s n v h g = absurd g
put_at Q (x ∷ xs) s n v h (inl e) =
    subst (λ z. Q z n v) e.0
    (subst (λ z. Q x.signal z v) e.1 (subst (λ z. Q x.signal x.level z) (sym e.2) h.0))
put_at Q (x ∷ xs) s n v h (inr g) = put_at Q xs s n v h.1 g

-- ---- one place of the table

some_same : {A : Type 0} (x y : A) → Some x ≡ Some y → x ≡ y
some_same x y e = cc

items_of : Vec Known Global → List Known
items_of r = r.items

map_set_same : {A B : Type 0} (f : A → B) (xs : List A) (i : ℕ) (x y : A) → slice_get xs i ≡ Some x → f y ≡ f
    x →
    map f (set xs i y) ≡ map f xs
map_set_same f [] i x y e g = refl
map_set_same f (z ∷ xs) zero x y e g = let q : z ≡ x = some_same z x e in ap (λ b. b ∷ map f xs)
    (g ∙ ap f (sym q))
map_set_same f (z ∷ xs) (suc i) x y e g = ap (λ l. f z ∷ l) (map_set_same f xs i x y e g)

pub put_shape : (t u : Statuses) (l i : ℕ) (k : Known) (row row' : Vec Known Global) → slice_get t.rows.items
    l ≡
    Some row → row'.items ≡ set row.items i k → u.rows.items ≡ set t.rows.items l row' → shape_of u ≡ shape_of
    t
put_shape t u l i k row row' e f g = ap (map (λ r. length r.items)) g ∙ map_set_same (λ r. length r.items)
    t.rows.items l row row' e (ap length f ∙ length-set row.items i k)

row_at : (t : Statuses) (n : ℕ) (row : Vec Known Global) → slice_get t.rows.items n ≡ Some row → slice_get
    (map (λ r. r.items) t.rows.items) n ≡ Some row.items
row_at t n row e = slice_get-map (λ r. r.items) t.rows.items n ∙ ap (option_map (λ r. r.items)) e

pub puts_one : (t u : Statuses) (r : Raise) (row row' : Vec Known Global) → slice_get t.rows.items r.level ≡
    Some
    row → row'.items ≡ set row.items r.signal r.known → u.rows.items ≡ set t.rows.items r.level row' →
    r.signal <
    length row.items → PutsOne r (cells_in t) (cells_in u)
puts_one t u r row row' e f g lt = record {
  here = ap (λ z. in_row z r.signal) new_row ∙ ap (λ z. of_known (slice_get z r.signal)) f ∙ ap of_known
      (set_here row.items r.signal r.known lt);
  others = λ s n d. at_level s n d (same_or_other n r.level);
}
  where
    room : r.level < length t.rows.items
    room = slice_get_within t.rows.items r.level row e

    new_row : slice_get (map (λ r. r.items) u.rows.items) r.level ≡ Some row'.items
    new_row = row_at u r.level row' (ap (λ z. slice_get z r.level) g ∙ set_here t.rows.items r.level row'
        room)

    at_level : (s n : ℕ) → (s ≢ r.signal) ⊎ (n ≢ r.level) → (n ≡ r.level) ⊎ (n ≢ r.level) → cells_in u s n ≡
        cells_in t s n
    at_level s n d (inr away) = ap (λ z. in_row z s)
        (slice_get-map (λ r. r.items) u.rows.items n ∙ ap (option_map (λ r. r.items))
        (ap (λ z. slice_get z n) g ∙ set_other t.rows.items r.level n row' away) ∙ sym
        (slice_get-map (λ r. r.items) t.rows.items n))
    at_level s n d (inl here) = ⊎_elim
        (λ ns. ap (cells_in u s) here ∙ ap (λ z. in_row z s) new_row ∙ ap (λ z. of_known (slice_get z s)) f ∙
        ap
        of_known (set_other row.items r.signal s r.known ns) ∙ sym
        (ap (cells_in t s) here ∙ ap (λ z. in_row z s) (row_at t r.level row e)))
        (λ away. absurd (away here)) d

pub place_level : (t : Statuses) (s n : ℕ) → HasPlace (shape_of t) s n → n < length t.rows.items
place_level t s n h = subst (λ k. n < k) (length-map t.rows.items (λ r. length r.items))
    (slice_get_within (shape_of t) n h.0 h.1)

pub place_signal : (t : Statuses) (s n : ℕ) (row : Vec Known Global) → HasPlace (shape_of t) s n → slice_get
    t.rows.items n ≡ Some row → s < length row.items
place_signal t s n row h e =
    let q : h.0 ≡ length row.items = some_same h.0 (length row.items)
    (sym h.1 ∙ slice_get-map (λ r. length r.items) t.rows.items n ∙ ap (option_map (λ r. length r.items)) e)
    in
    subst (λ k. s < k) q h.2
