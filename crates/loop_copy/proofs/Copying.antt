-- What the copy of each statement adds, from what those of its parts add.
use Rattle.std.proofs.Common.{◌≡◌, ℕ, zero, suc, ◌+◌, ◌<◌, Bool, true, false, cond, eqb, List, [], ◌∷◌, ◌++◌, length, map, set}
use Rattle.std.proofs.Common.{refl, sym, ap, subst, ◌∙◌, arith, get_or, eqb-true, eq-eqb, length-append, Option, Some}
use Rattle.std.proofs.lemmas.List.{append-nil, append_assoc, length-map}
use Rattle.std.specs.Prelude.{slice_get, option_map, option_to_list}
use Rattle.host_expr.specs.Expression.{Expression}
use Rattle.hh_term.specs.Statement.{Statement, Nothing, Pause, Emit, If, Suspend, Seq, Par, Loop, Trap}
use Rattle.hh_term.specs.Statement.{Exit, Local, Async}
use Rattle.hh_term.specs.Kernel.{Kernel, AsyncSite}
use Rattle.hh_term.specs.declared.program.Site.{Site}
use Rattle.hh_term.specs.Views.{site_of}
use Rattle.loop_copy.proofs.Lists.{got_map}
use mathlib.Core.Path.{fun_ext}
use Rattle.loop_copy.specs.Renaming.{renamed, renamed_site, numbers_in, number_or}
use Rattle.loop_copy.specs.Copies.{copy, copied_sites, copied_locals, copied_asyncs, local_count, async_count, items_at, with_number}
use Rattle.loop_copy.specs.Numbered.{Numbered, Declares, Adds, Copies}

-- ---- lists of numbers

set_back : (xs : List ℕ) (i n d : ℕ) → i < length xs → set (set xs i n) i (number_or d (slice_get xs i)) ≡ xs
set_back [] i n d h = absurd (let no : ⊥ = omega (arith, h) in no)
set_back (x ∷ xs) zero n d h = refl
set_back (x ∷ xs) (suc i) n d h = ap (λ z. x ∷ z) (set_back xs i n d (omega (arith, h)))

got_set : (xs : List ℕ) (i n : ℕ) → i < length xs → slice_get (set xs i n) i ≡ Some n
got_set [] i n h = absurd (let no : ⊥ = omega (arith, h) in no)
got_set (x ∷ xs) zero n h = refl
got_set (x ∷ xs) (suc i) n h = got_set xs i n (omega (arith, h))

got_other : (xs : List ℕ) (i j n : ℕ) → (j ≡ i → ⊥) → slice_get (set xs i n) j ≡ slice_get xs j
got_other [] i j n h = refl
got_other (x ∷ xs) zero zero n h = absurd (h refl)
got_other (x ∷ xs) zero (suc j) n h = refl
got_other (x ∷ xs) (suc i) zero n h = refl
got_other (x ∷ xs) (suc i) (suc j) n h = got_other xs i j n (λ e. h (ap suc e))

number_set : (xs : List ℕ) (s n : ℕ) → s < length xs → numbers_in (set xs s n) ≡ with_number s n (numbers_in xs)
number_set xs s n h = fun_ext (λ t. at t (eqb t s) refl)
  where
    at : (t : ℕ) (b : Bool) → eqb t s ≡ b → numbers_in (set xs s n) t ≡ cond b n (numbers_in xs t)
    at t true e =
        let same : t ≡ s = eqb-true t s e in
        ap (λ z. numbers_in (set xs s n) z) same ∙ ap (number_or s) (got_set xs s n h)
    at t false e = ap (number_or t) (got_other xs s t n (λ (k : t ≡ s). (let yes : eqb t s ≡ true = eq-eqb t s k in let no : ⊥ = cc in no)))

pub items_append : {A : Type 0} (xs : List A) (is js : List ℕ) → items_at xs (is ++ js) ≡ items_at xs is ++ items_at xs js
items_append xs [] js = refl
items_append xs (i ∷ is) js =
    ap (λ z. option_to_list (slice_get xs i) ++ z) (items_append xs is js)
    ∙ sym (append_assoc (option_to_list (slice_get xs i)) (items_at xs is) (items_at xs js))

module _ (K : Kernel) where
  adds_nothing : (a : Numbered) → Adds K a a [] [] []
  adds_nothing a =
      record {
        numbers = refl;
        signals = sym (append-nil a.signals);
        sites = sym (append-nil a.sites);
        more_signals = refl;
        more_sites = refl;
      }

  then_adds : (a b d : Numbered) (xs ys is js : List ℕ) (ss ts : List AsyncSite) → Adds K a b xs is ss → Adds K b d ys js ts
      → Adds K a d (xs ++ ys) (is ++ js) (ss ++ ts)
  then_adds a b d xs ys is js ss ts x y =
      record {
        numbers = y.numbers ∙ x.numbers;
        signals = y.signals ∙ ap (λ z. z ++ items_at K.signals ys) x.signals
            ∙ append_assoc a.signals (items_at K.signals xs) (items_at K.signals ys)
            ∙ ap (λ z. a.signals ++ z) (sym (items_append K.signals xs ys));
        sites = y.sites ∙ ap (λ z. z ++ ts) x.sites ∙ append_assoc a.sites ss ts;
        more_signals = ap length (items_append K.signals xs ys)
            ∙ length-append (items_at K.signals xs) (items_at K.signals ys)
            ∙ (λ i. x.more_signals i + y.more_signals i) ∙ sym (length-append xs ys);
        more_sites = length-append ss ts ∙ (λ i. x.more_sites i + y.more_sites i) ∙ sym (length-append is js);
      }

  signals_on : (a b : Numbered) (xs is : List ℕ) (ss : List AsyncSite) → Adds K a b xs is ss
      → length b.signals ≡ length a.signals + length xs
  signals_on a b xs is ss x = ap length x.signals ∙ length-append a.signals (items_at K.signals xs)
      ∙ ap (λ z. length a.signals + z) x.more_signals

  sites_on : (a b : Numbered) (xs is : List ℕ) (ss : List AsyncSite) → Adds K a b xs is ss
      → length b.sites ≡ length a.sites + length is
  sites_on a b xs is ss x = ap length x.sites ∙ length-append a.sites ss ∙ ap (λ z. length a.sites + z) x.more_sites

  -- one copy behind another
  pub record Then (a d : Numbered) (p q c e : Statement) : Type 0 where
    pub first : c ≡ copy (numbers_in a.numbers) (length a.signals) (length a.sites) p
    pub second : e ≡ copy (numbers_in a.numbers) (length a.signals + local_count p) (length a.sites + async_count p) q
    pub adds : Adds K a d (copied_locals p ++ copied_locals q) (copied_asyncs p ++ copied_asyncs q)
        (copied_sites K.sites (numbers_in a.numbers) (length a.signals) p
        ++ copied_sites K.sites (numbers_in a.numbers) (length a.signals + local_count p) q)

  pub copies_then : (a b d : Numbered) (p q c e : Statement) → Copies K a b p c → Copies K b d q e → Then a d p q c e
  copies_then a b d p q c e x y =
      let ss = copied_sites K.sites (numbers_in a.numbers) (length a.signals) p in
      let n : length b.signals ≡ length a.signals + local_count p = signals_on a b (copied_locals p) (copied_asyncs p) ss x.adds in
      let m : length b.sites ≡ length a.sites + async_count p = sites_on a b (copied_locals p) (copied_asyncs p) ss x.adds in
      record {
        first = x.statement;
        second = y.statement ∙ (λ i. copy (numbers_in (x.adds.numbers i)) (n i) (m i) q);
        adds = subst (λ ts. Adds K a d (copied_locals p ++ copied_locals q) (copied_asyncs p ++ copied_asyncs q) (ss ++ ts))
            (λ i. copied_sites K.sites (numbers_in (x.adds.numbers i)) (n i) q)
            (then_adds a b d (copied_locals p) (copied_locals q) (copied_asyncs p) (copied_asyncs q) ss
            (copied_sites K.sites (numbers_in b.numbers) (length b.signals) q) x.adds y.adds);
      }

  -- ---- each statement

  pub copies_nothing : (a : Numbered) → Copies K a a Nothing Nothing
  copies_nothing a = record { statement = refl; adds = adds_nothing a }

  pub copies_pause : (a : Numbered) → Copies K a a Pause Pause
  copies_pause a = record { statement = refl; adds = adds_nothing a }

  pub copies_exit : (a : Numbered) (k : ℕ) → Copies K a a (Exit k) (Exit k)
  copies_exit a k = record { statement = refl; adds = adds_nothing a }

  pub copies_emit : (a : Numbered) (s t : ℕ) (e f : Option Expression) → t ≡ numbers_in a.numbers s
      → f ≡ option_map (renamed (numbers_in a.numbers)) e → Copies K a a (Emit s e) (Emit t f)
  copies_emit a s t e f x y = record { statement = λ i. Emit (x i) (y i); adds = adds_nothing a }

  pub copies_seq : (a b d : Numbered) (p q c e : Statement) → Copies K a b p c → Copies K b d q e → Copies K a d (Seq p q) (Seq c e)
  copies_seq a b d p q c e x y =
      let t = copies_then a b d p q c e x y in
      record { statement = λ i. Seq (t.first i) (t.second i); adds = t.adds }

  pub copies_par : (a b d : Numbered) (p q c e : Statement) → Copies K a b p c → Copies K b d q e → Copies K a d (Par p q) (Par c e)
  copies_par a b d p q c e x y =
      let t = copies_then a b d p q c e x y in
      record { statement = λ i. Par (t.first i) (t.second i); adds = t.adds }

  pub copies_if : (a b d : Numbered) (e f : Expression) (p q c o : Statement) → f ≡ renamed (numbers_in a.numbers) e
      → Copies K a b p c → Copies K b d q o → Copies K a d (If e p q) (If f c o)
  copies_if a b d e f p q c o z x y =
      let t = copies_then a b d p q c o x y in
      record { statement = λ i. If (z i) (t.first i) (t.second i); adds = t.adds }

  pub copies_suspend : (a b : Numbered) (e f : Expression) (p c : Statement) → f ≡ renamed (numbers_in a.numbers) e
      → Copies K a b p c → Copies K a b (Suspend e p) (Suspend f c)
  copies_suspend a b e f p c z x = record { statement = λ i. Suspend (z i) (x.statement i); adds = x.adds }

  pub copies_trap : (a b : Numbered) (p c : Statement) → Copies K a b p c → Copies K a b (Trap p) (Trap c)
  copies_trap a b p c x = record { statement = ap Trap x.statement; adds = x.adds }

  pub copies_loop : (a b d : Numbered) (p c e : Statement) → Copies K a b p c → Copies K b d p e
      → Copies K a d (Loop p) (Loop (Seq c e))
  copies_loop a b d p c e x y =
      let t = copies_then a b d p p c e x y in
      record { statement = λ i. Loop (Seq (t.first i) (t.second i)); adds = t.adds }

  number_of_item : {A : Type 0} (xs : List A) (i : ℕ) (x : A) → i < length xs → x ≡ get_or xs i x → slice_get xs i ≡ Some x
  number_of_item [] i x h e = absurd (let no : ⊥ = omega (arith, h) in no)
  number_of_item (y ∷ xs) zero x h e = ap Some (sym e)
  number_of_item (y ∷ xs) (suc i) x h e = number_of_item xs i x (omega (arith, h)) e

  pub site_at : (xs : List Site) (ys : List AsyncSite) (i : ℕ) (x : Site) → map site_of xs ≡ ys → i < length ys
      → x ≡ get_or xs i x → slice_get ys i ≡ Some (site_of x)
  site_at xs ys i x e h g =
      let many : length ys ≡ length xs = ap length (sym e) ∙ length-map xs site_of in
      ap (λ zs. slice_get zs i) (sym e) ∙ got_map site_of xs i
      ∙ ap (option_map site_of) (number_of_item xs i x (omega (arith, h, many)) g)

  pub copies_async : (a d : Numbered) (i m : ℕ) (s t : AsyncSite) → slice_get K.sites i ≡ Some s → m ≡ length a.sites
      → d.numbers ≡ a.numbers → d.signals ≡ a.signals → d.sites ≡ a.sites ++ t ∷ []
      → t ≡ renamed_site (numbers_in a.numbers) s → Copies K a d (Async i) (Async m)
  copies_async a d i m s t at e ns ss ts is =
      let these : map (renamed_site (numbers_in a.numbers)) (option_to_list (slice_get K.sites i))
      ≡ renamed_site (numbers_in a.numbers) s ∷ [] =
      ap (λ z. map (renamed_site (numbers_in a.numbers)) (option_to_list z)) at in
      record {
        statement = ap Async e;
        adds = record {
          numbers = ns;
          signals = ss ∙ sym (append-nil a.signals);
          sites = ts ∙ ap (λ z. a.sites ++ z ∷ []) is ∙ ap (λ z. a.sites ++ z) (sym these);
          more_signals = refl;
          more_sites = ap length these;
        };
      }

  -- a local signal is declared, its scope is copied, and it has its old number again
  pub copies_local : (a b c d : Numbered) (s n outer : ℕ) (p q : Statement) → s < length a.numbers → Declares K s n a b
      → Copies K b c p q → outer ≡ numbers_in a.numbers s → d.numbers ≡ set c.numbers s outer → d.signals ≡ c.signals
      → d.sites ≡ c.sites → Copies K a d (Local s p) (Local n q)
  copies_local a b c d s n outer p q h x y o ns ss ts =
      record {
        statement = λ i. Local (x.number i) (inner i);
        adds = record {
          numbers = ns ∙ (λ i. set (y.adds.numbers i) s (o i)) ∙ (λ i. set (x.numbers i) s (numbers_in a.numbers s))
              ∙ set_back a.numbers s n s h;
          signals = ss ∙ y.adds.signals ∙ ap (λ z. z ++ items_at K.signals (copied_locals p)) x.signals
              ∙ append_assoc a.signals (items_at K.signals (s ∷ [])) (items_at K.signals (copied_locals p))
              ∙ ap (λ z. a.signals ++ z) (sym (items_append K.signals (s ∷ []) (copied_locals p)));
          sites = ts ∙ y.adds.sites ∙ (λ i. x.sites i ++ copied_sites K.sites (named i) (many i) p);
          more_signals = ap length (items_append K.signals (s ∷ []) (copied_locals p))
              ∙ length-append (items_at K.signals (s ∷ [])) (items_at K.signals (copied_locals p))
              ∙ (λ i. x.more i + y.adds.more_signals i)
              ∙ (let one : 1 + length (copied_locals p) ≡ suc (length (copied_locals p)) = omega arith in one);
          more_sites = ap length (sym (λ i. copied_sites K.sites (named i) (many i) p)) ∙ y.adds.more_sites;
        };
      }
    where
      many : length b.signals ≡ suc (length a.signals)
      many = ap length x.signals ∙ length-append a.signals (items_at K.signals (s ∷ []))
          ∙ ap (λ z. length a.signals + z) x.more
          ∙ (let one : length a.signals + 1 ≡ suc (length a.signals) = omega arith in one)

      named : numbers_in b.numbers ≡ with_number s (length a.signals) (numbers_in a.numbers)
      named = ap numbers_in x.numbers ∙ number_set a.numbers s n h
          ∙ ap (λ z. with_number s z (numbers_in a.numbers)) x.number

      inner : q ≡ copy (with_number s (length a.signals) (numbers_in a.numbers)) (suc (length a.signals)) (length a.sites) p
      inner = y.statement ∙ (λ i. copy (named i) (many i) (length (x.sites i)) p)
