-- From the bundle of a grammar to what is promised of reading a whole text: its tree, or the first fault.
use Rattle.std.proofs.Common.{◌≡◌, ℕ, suc, ◌+◌, Bool, true, false, cond, List, [], ◌∷◌, ◌++◌, length, Option}
use Rattle.std.proofs.Common.{Some, None, Result, Ok, Err, refl, sym, ap, subst, ◌∙◌, append_assoc, arith}
use Rattle.std.specs.Prelude.{IfOk, IfErr, is_none, not, ◌||◌, ◌&&◌}
use Rattle.std.proofs.lemmas.List.{append-nil}
use Rattle.grammar.specs.Tokens.{Tok, Alphabet, kind_of, place_of, passes, never, always}
use Rattle.grammar.specs.Fault.{Fault, Unexpected, EndOfText, Deep, Large, OutOfRange, Refusal}
use Rattle.grammar.specs.Language as l
use Rattle.grammar.specs.Language.{Lang}
use Rattle.grammar.specs.Parser.{Unread, Parser, Parsed, Reads, and_then, ◌>>=◌, pure, start, finish, whole}
use Rattle.grammar.specs.Parser.{kind, place, refusal, why}
use Rattle.grammar.specs.Texts.{Few, Within, Viable, Clean, IsPastLimit, FaultAt, FirstFault, ReadAs}
use Rattle.grammar.proofs.KindSets.{every_by, subset, or_right}
use Rattle.grammar.proofs.Bundle.{from, First, Level, Here, Alike, Starts, Bottom, Nested, Completes, Stopped}
use Rattle.grammar.proofs.Bundle.{Sound, IsLimit, Kept, Good, nested_nil, took}
use Rattle.grammar.proofs.Sequences.{good_seq, good_pure, fit, or_then}
use Rattle.grammar.proofs.Choices.{good_as}
use Rattle.grammar.proofs.Levels.{outer_level}
use Rattle.grammar.proofs.Nesting.{deeper, deeper-sum, refuses}

-- ---- the end

abbrev ended : {K : Type 0} → Lang K (Unit {0})
ended = l.pure tt

finish_as : {K : Type 0} (i : Unread K) (ts : List (Tok K)) → i.rest ≡ ts
    → finish i ≡ cond (is_none (kind_of ts)) (Ok (tt, i))
    (Err (record { place = place_of i.size ts; fault = why (kind_of ts) }))
unfolding finish kind refusal place
finish_as i ts e = rw (sym e) refl

module _ {K : Type 0} (al : Alphabet K) (x : ℕ) (v : Level) (n : ℕ) where
  finish_sound : (i : Unread K) (ts : List (Tok K)) → i.rest ≡ ts
      → Sound al x v n n finish ended i (cond (is_none (kind_of ts)) (Ok (tt, i))
      (Err (record { place = place_of i.size ts; fault = why (kind_of ts) })))
  finish_sound i [] e = record {
    used = [];
    marks = [];
    split = refl;
    size = refl;
    aligned = refl;
    after = v.after_nil i.count;
    nested = nested_nil al n;
    balance = refl;
    spells = (refl, refl, refl);
    local = λ r h. finish_as (from i r) r refl ∙ ap
        (λ k. cond {A = Parsed K (Unit {0})} (is_none k) (Ok (tt, from i r))
        (Err (record { place = place_of i.size r; fault = why k }))) (h ∙ ap kind_of e);
  }
  finish_sound i (t ∷ ts) e = λ lt.
      refuses al v n finish ended (tt, [], [], (refl, refl, refl)) i (t ∷ ts) e
      (λ r h. finish_as (from i r) r refl ∙ ap (λ k. cond {A = Parsed K (Unit {0})} (is_none k)
      (Ok (tt, from i r)) (Err (record { place = place_of i.size r; fault = why (kind_of r) }))) h)

  ended_by : (r : List (Tok K)) → passes always (kind_of r) ≡ false → kind_of r ≡ None
  ended_by [] c = refl
  ended_by (t ∷ r) c = absurd (let no : ⊥ = cc in no)

  good_finish : Good al x v n n finish ended true never always
  good_finish = record {
    sound = λ i. subst (λ o. Sound al x v n n finish ended i o) (sym (finish_as i i.rest refl))
        (finish_sound i i.rest refl);
    sample = λ lt. (tt, [], [], (refl, refl, refl));
    begins = λ b u ms y. rw y.1 refl;
    kept = λ i a u r ms e y c.
        let split : i.rest ≡ r = e ∙ ap (λ z. z ++ r) y.1 in
        subst (λ o. Kept x v i.count ms o a r) (sym
        (finish_as i r split ∙ ap (λ k. cond {A = Parsed K (Unit {0})} (is_none k) (Ok (tt, i))
        (Err (record { place = place_of i.size r; fault = why (kind_of r) }))) (ended_by r c)))
        (sym y.0, split, subst (λ z. v.after i.count z i.count) (sym y.2) (v.after_nil i.count));
  }

-- ---- a text that nothing follows

module _ {K A : Type 0} (s : Lang K A) where
  abbrev with_end : Lang K A
  with_end = l.◌>>=◌ s (λ a. l.◌>>=◌ ended (λ t. l.pure a))

  to_end : (a : A) (u : List (Tok K)) (ms : List ℕ) → s a u ms → with_end a u ms
  to_end a u ms y = (
    a,
    u,
    [],
    ms,
    [],
    sym (append-nil u),
    sym (append-nil ms),
    y,
    (tt, [], [], [], [], refl, refl, (refl, refl, refl), (refl, refl, refl)),
  )

  from_end : (a : A) (u : List (Tok K)) (ms : List ℕ) → with_end a u ms → s a u ms
  from_end a u ms y =
      let more = y.8 in
      let none : y.2 ≡ [] = more.5 ∙ ap (λ z. z ++ more.2) more.7.1 ∙ more.8.1 in
      let unmarked : y.4 ≡ [] = more.6 ∙ ap (λ z. z ++ more.4) more.7.2 ∙ more.8.2 in
      let all : u ≡ y.1 = y.5 ∙ ap (λ z. y.1 ++ z) none ∙ append-nil y.1 in
      let marks : ms ≡ y.3 = y.6 ∙ ap (λ z. y.3 ++ z) unmarked ∙ append-nil y.3 in
      subst (λ z. s z u ms) (sym more.8.0) (subst (λ z. s y.0 z ms) (sym all)
      (subst (λ z. s y.0 y.1 z) (sym marks) y.7))

fits_end : {K : Type 0} (al : Alphabet K) (b : Bool) (f c1 : K → Bool) → ((k : K) → f k ≡ false)
    → fit al b f c1 always ≡ true
fits_end al b f c1 none = joined (every_by al (λ k. not (f k) || not (c1 k)) (λ k. rw (none k) refl))
    (or_right (not b) (subset al c1 always) (every_by al (λ k. not (c1 k) || true)
    (λ k. or_right (not (c1 k)) true refl)))
  where
    joined : {a b : Bool} → a ≡ true → b ≡ true → (a && b) ≡ true
    joined e h = rw (e, h) refl

pub good_whole : {K A : Type 0} {al : Alphabet K} {x : ℕ} {v : Level} {n : ℕ} {p : Parser K A}
    {s : Lang K A} {empty : Bool} {first cont : K → Bool} → Good al x v n n p s empty first cont
    → Good al x v n n (whole p) s empty first always
good_whole {A = A} {al} {x} {v} {n} {p} {s} {cont = cont} g =
    let last = λ (a : A). good_seq (good_finish al x v n) (λ t. good_pure a always)
    (fits_end al true never always (λ k. refl)) in
    let all = good_as (whole p) (whole p) (with_end s) s (λ i. refl) (from_end s) (to_end s)
    (good_seq g last (fits_end al true (or_then true never never) cont (λ k. refl))) in
    record { sound = all.sound; sample = all.sample; begins = g.begins; kept = all.kept }

-- ---- what was read is all of the text

bind_ok : {K A B : Type 0} (o : Parsed K A) (next : A → Parser K B) (y : B × Unread K)
    → and_then o next ≡ Ok y → (q : A × Unread K) × (o ≡ Ok q) × (next q.0 q.1 ≡ Ok y)
bind_ok (Ok q) next y e = (q, refl, e)
bind_ok (Err r) next y e = absurd (let no : ⊥ = cc in no)

outcome_or : {K A : Type 0} → A × Unread K → Parsed K A → A × Unread K
outcome_or q (Ok y) = y
outcome_or q (Err r) = q

same_outcome : {K A : Type 0} (q y : A × Unread K) → ◌≡◌ {A = Parsed K A} (Ok q) (Ok y) → q ≡ y
unfolding outcome_or
same_outcome q y e = ap (outcome_or q) e

finish_ends : {K : Type 0} (i : Unread K) (ts : List (Tok K)) (q : (Unit {0}) × Unread K) → i.rest ≡ ts
    → finish i ≡ Ok q → q.1.rest ≡ []
finish_ends i [] q e h = ap (λ (y : (Unit {0}) × Unread _). y.1.rest)
    (sym (same_outcome (tt, i) q (sym (finish_as i [] e) ∙ h))) ∙ e
finish_ends i (t ∷ ts) q e h = absurd (let other = sym (finish_as i (t ∷ ts) e) ∙ h in let no : ⊥ = cc in no)

whole_ends : {K A : Type 0} (p : Parser K A) (i : Unread K) (a : A) (j : Unread K) → whole p i ≡ Ok (a, j)
    → j.rest ≡ []
whole_ends {K} {A} p i a j e =
    let x = bind_ok (p i) (λ a. finish >>= λ t. pure a) (a, j) e in
    let y = bind_ok (finish x.0.1) (λ t. pure x.0.0) (a, j) x.2 in
    ap (λ (q : A × Unread K). q.1.rest) (sym (same_outcome (x.0.0, y.0.1) (a, j) y.2))
    ∙ finish_ends x.0.1 x.0.1.rest y.0 refl y.1

-- ---- what reading a whole text gives

shift : {X : Type 0} (before : List X) (t : X) (more : List X) → before ++ t ∷ more ≡ (before ++ t ∷ [])
    ++ more
shift before t more = sym (append_assoc before (t ∷ []) more)

-- tokens that a text may go on with, where reading stopped
some_start : {K : Type 0} (al : Alphabet K) (f : Fault) (at : List (Tok K)) → Here al f at
    → (start : List (Tok K)) × Starts f at start
some_start al Unexpected at h = ([], refl)
some_start al EndOfText at h = ([], refl)
some_start al Deep [] h = absurd h
some_start al Deep (t ∷ at) h = (t ∷ [], refl)
some_start al Large [] h = absurd h
some_start al Large (t ∷ at) h = (t ∷ [], refl)
some_start al (OutOfRange least most) [] h = absurd h
some_start al (OutOfRange least most) (t ∷ at) h =
    ((record t { value = h.1 }) ∷ [], (record t { value = h.1 }, refl, refl, h.2))

module _ {K A : Type 0} (al : Alphabet K) (texts : ℕ → Lang K A) (p : Parser K A) {empty : Bool}
    {first cont : K → Bool}
    (g : (x : ℕ) → Good al x (outer_level al) al.most_open al.most_open p (texts (deeper al.most_open x))
    empty first cont) where
  as_deep : (x : ℕ) (a : A) (u : List (Tok K)) (ks : List ℕ) → texts (al.most_open + x) a u ks
      → texts (deeper al.most_open x) a u ks
  as_deep x a u ks y = subst (λ n. texts n a u ks) (sym (deeper-sum al.most_open x)) y

  as_more : (x : ℕ) (a : A) (u : List (Tok K)) (ks : List ℕ) → texts (deeper al.most_open x) a u ks
      → texts (al.most_open + x) a u ks
  as_more x a u ks y = subst (λ n. texts n a u ks) (deeper-sum al.most_open x) y

  no_deeper : deeper al.most_open 0 ≡ al.most_open
  no_deeper = omega (arith, deeper-sum al.most_open 0)

  as_shallow : (a : A) (u : List (Tok K)) (ks : List ℕ) → texts (deeper al.most_open 0) a u ks
      → texts al.most_open a u ks
  as_shallow a u ks y = subst (λ n. texts n a u ks) no_deeper y

  from_shallow : (a : A) (u : List (Tok K)) (ks : List ℕ) → texts al.most_open a u ks
      → texts (deeper al.most_open 0) a u ks
  from_shallow a u ks y = subst (λ n. texts n a u ks) (sym no_deeper) y

  -- what was read is a text within the limits
  pub text_found : (size : ℕ) (ts : List (Tok K)) (a : A) (j : Unread K)
      → whole p (start ts size) ≡ Ok (a, j) → Within al texts a ts
  unfolding outer_level
  text_found size ts a j e =
      let t = took (good_whole (g 0)) (start ts size) (a, j) e in
      let all : ts ≡ t.used = t.split ∙ ap (λ z. t.used ++ z) (whole_ends p (start ts size) a j e)
      ∙ append-nil t.used in (
        t.marks,
        as_shallow a ts t.marks (subst (λ z. texts (deeper al.most_open 0) a z t.marks)
            (sym all) t.spells),
        t.after,
      )

  -- a text of the grammar is read, or a limit is met in it; one that is shallow does not meet the one
  text_kept : (x size : ℕ) (a : A) (u : List (Tok K)) (ks : List ℕ) → texts (deeper al.most_open x) a u ks
      → Kept x (outer_level al) 0 ks (whole p (start u size)) a []
  text_kept x size a u ks y = (good_whole (g x)).kept (start u size) a u [] ks (sym (append-nil u)) y refl

  limit_met : (x size : ℕ) (a : A) (u : List (Tok K)) (ks : List ℕ) (r : Refusal)
      → whole p (start u size) ≡ Err r → texts (deeper al.most_open x) a u ks
      → IsLimit x (outer_level al) 0 ks r.fault
  limit_met x size a u ks r e y = subst (λ o. Kept x (outer_level al) 0 ks o a []) e
      (text_kept x size a u ks y)

  few_limit : (ks : List ℕ) (f : Fault) → Few al ks → IsLimit 0 (outer_level al) 0 ks f → ⊥
  unfolding outer_level
  few_limit ks Unexpected few h = h
  few_limit ks EndOfText few h = h
  few_limit ks Deep few h = let no : ⊥ = omega (arith, h) in no
  few_limit ks Large few h = h few
  few_limit ks (OutOfRange least most) few h = h

  -- a text within the limits is not refused
  not_refused : (size : ℕ) (ts : List (Tok K)) (a : A) (r : Refusal) → whole p (start ts size) ≡ Err r
      → Within al texts a ts → ⊥
  not_refused size ts a r e y = few_limit y.0 r.fault y.2
      (limit_met 0 size a ts y.0 r e (from_shallow a ts y.0 y.1))

  -- a text within the limits is read as its tree
  text_read : (size : ℕ) (ts : List (Tok K)) (a b : A) (j : Unread K) → whole p (start ts size) ≡ Ok (b, j)
      → Within al texts a ts → b ≡ a
  text_read size ts a b j e y = (subst (λ o. Kept 0 (outer_level al) 0 y.0 o a []) e
      (text_kept 0 size a ts y.0 (from_shallow a ts y.0 y.1))).0

  -- ---- the fault, where reading stopped

  module _ (size : ℕ) (before : List (Tok K)) (f : Fault) (at : List (Tok K)) (local : (r : List (Tok K))
      → Alike f at r → whole p (start (before ++ r) size) ≡ Err
      (record { place = place_of size r; fault = f })) where
    -- no text goes on with tokens at which reading stops alike, but where a limit is met
    meets_limit : (a : A) (r : List (Tok K)) (ks : List ℕ) (x : ℕ) → Alike f at r
        → texts (deeper al.most_open x) a (before ++ r) ks → IsLimit x (outer_level al) 0 ks f
    meets_limit a r ks x c y = limit_met x size a (before ++ r) ks
        (record { place = place_of size r; fault = f }) (local r c) y

    not_viable : (u : Tok K) → ((more : List (Tok K)) → Alike f at (u ∷ more))
        → ((x : ℕ) (ks : List ℕ) → IsLimit x (outer_level al) 0 ks f → ⊥)
        → ¬ Viable al texts (before ++ u ∷ [])
    not_viable u alike none y =
        none y.2.1.0 y.2.0
        (meets_limit y.0 (u ∷ y.1) y.2.0 y.2.1.0 (alike y.1)
        (subst (λ z. texts (deeper al.most_open y.2.1.0) y.0 z y.2.0) (sym (shift before u y.1))
        (as_deep y.2.1.0 y.0 ((before ++ u ∷ []) ++ y.1) y.2.0 y.2.1.1)))

  viable_by : (before more : List (Tok K)) (u : Tok K) (a : A) (ks : List ℕ)
      → texts (deeper al.most_open 1) a (before ++ ((u ∷ []) ++ more)) ks → Viable al texts (before ++ u ∷ [])
  viable_by before more u a ks y = (
    a,
    more,
    (
      ks,
      (
        1,
        subst (λ z. texts (al.most_open + 1) a z ks)
            (shift before u more) (as_more 1 a (before ++ u ∷ more) ks y),
      ),
    ),
  )

  past_by : (before more : List (Tok K)) (t : Tok K) (a : A) (front back : List ℕ)
      → length front ≡ length before → First (λ k. k ≡ suc al.most_counted) back
      → texts (deeper al.most_open 1) a (before ++ ((t ∷ []) ++ more)) (front ++ back)
      → IsPastLimit al texts before t
  past_by before more t a front [] e h y = absurd h
  past_by before more t a front (k ∷ back) e h y = (
    a,
    more,
    front,
    back,
    (
      1,
      subst (λ z. texts (al.most_open + 1) a (before ++ t ∷ more)
          (front ++ z ∷ back)) h (as_more 1 a (before ++ t ∷ more) (front ++ k ∷ back) y),
    ),
    e,
  )

  fault_at : (size : ℕ) (before : List (Tok K)) (front : List ℕ) (count : ℕ) (f : Fault)
      (at : List (Tok K)) → Here al f at → Bottom al al.most_open f before → length front ≡ length before
      → ((r : List (Tok K)) → Alike f at r → whole p (start (before ++ r) size) ≡ Err
      (record { place = place_of size r; fault = f }))
      → ((begin : List (Tok K)) → Starts f at begin
      → Completes (outer_level al) (texts (deeper al.most_open 1)) before front count f begin)
      → FaultAt al texts f before at
  unfolding outer_level
  fault_at size before front count Unexpected [] place bottom aligned local goes = absurd place
  fault_at size before front count Unexpected (t ∷ at) place bottom aligned local goes =
      let w = goes [] refl in (
        (
          w.answer,
          w.more,
          (
            front ++ w.back,
            (
              1,
              as_more 1 w.answer (before ++ w.more) (front ++ w.back)
                  w.spells,
            ),
          ),
        ),
        not_viable size before Unexpected (t ∷ at) local t (λ more. refl) (λ x ks h. h),
      )
  fault_at size before front count EndOfText [] place bottom aligned local goes =
      let w = goes [] refl in (
        (
          w.answer,
          w.more,
          (
            front ++ w.back,
            (
              1,
              as_more 1 w.answer (before ++ w.more) (front ++ w.back)
                  w.spells,
            ),
          ),
        ),
        λ a y. meets_limit size before EndOfText [] local a [] y.0 y.1.0 tt
            (subst (λ z. texts (deeper al.most_open y.1.0) a z y.0) (sym (append-nil before))
            (as_deep y.1.0 a before y.0 y.1.1)),
      )
  fault_at size before front count EndOfText (t ∷ at) place bottom aligned local goes =
      absurd (let no : ⊥ = cc in no)
  fault_at size before front count Deep [] place bottom aligned local goes = absurd place
  fault_at size before front count Deep (t ∷ at) place bottom aligned local goes =
      let w = goes (t ∷ []) refl in (
        place,
        bottom,
        viable_by before w.more t w.answer (front ++ w.back) w.spells,
        λ a more y.
            let none = meets_limit size before Deep (t ∷ at) local a (t ∷ more) y.0 0 refl
            (subst (λ z. texts (deeper al.most_open 0) a z y.0) (sym (shift before t more))
            (from_shallow a ((before ++ t ∷ []) ++ more) y.0 y.1)) in
            let no : ⊥ = omega (arith, none) in no,
      )
  fault_at size before front count Large [] place bottom aligned local goes = absurd place
  fault_at size before front count Large (t ∷ at) place bottom aligned local goes =
      let w = goes (t ∷ []) refl in (
        past_by before w.more t w.answer front w.back aligned w.fills w.spells,
        λ a more y. meets_limit size before Large (t ∷ at) local a (t ∷ more) y.0 0 refl
            (subst (λ z. texts (deeper al.most_open 0) a z y.0) (sym (shift before t more))
            (from_shallow a ((before ++ t ∷ []) ++ more) y.0 y.1)) y.2,
      )
  fault_at size before front count (OutOfRange least most) [] place bottom aligned local goes = absurd place
  fault_at size before front count (OutOfRange least most) (t ∷ at) place bottom aligned local goes = (
    place.0,
    λ u same. (
      λ inside. let w = goes (u ∷ []) (u, refl, same, inside) in viable_by before w.more u w.answer
          (front ++ w.back) w.spells,
      λ outside. not_viable size before (OutOfRange least most) (t ∷ at) local u (λ more. (same, outside))
          (λ x ks h. h),
    ),
  )

  clean_before : (before at : List (Tok K)) (front : List ℕ) (count : ℕ) (f : Fault) → Here al f at
      → length front ≡ length before → Few al front → Nested al al.most_open before
      → ((begin : List (Tok K)) → Starts f at begin
      → Completes (outer_level al) (texts (deeper al.most_open 1)) before front count f begin)
      → Clean al texts before
  clean_before before at front count f place aligned few nested goes =
      let s = some_start al f at place in
      let w = goes s.0 s.1 in
      record {
        brackets = nested;
        leaves = (
          w.answer,
          s.0 ++ w.more,
          front,
          w.back,
          (1, as_more 1 w.answer (before ++ (s.0 ++ w.more)) (front ++ w.back) w.spells),
          aligned,
          few,
        );
      }

  -- where reading stops is the first fault
  pub text_fault : (size : ℕ) (ts : List (Tok K)) (r : Refusal) → whole p (start ts size) ≡ Err r
      → FirstFault al texts size ts r
  unfolding outer_level
  text_fault size ts r e =
      let s = stopped e in (
        s.used,
        s.at,
        s.split,
        s.place,
        clean_before s.used s.at s.front s.count r.fault s.stands s.aligned s.after s.nested s.goes,
        fault_at size s.used s.front s.count r.fault s.at s.stands s.bottom s.aligned s.local s.goes,
      )
    where
      stopped : whole p (start ts size) ≡ Err r → Stopped al (outer_level al) al.most_open (whole p)
          (texts (deeper al.most_open 1)) (start ts size) r
      stopped e = (subst (λ o. Sound al 1 (outer_level al) al.most_open al.most_open (whole p)
          (texts (deeper al.most_open 1)) (start ts size) o) e ((good_whole (g 1)).sound (start ts size)))
          (omega arith)

  -- ---- what a function that reads a whole text ensures, by what it reads

  module _ {E : Type 0} (seen : E → Option Refusal) (size : ℕ) (ts : List (Tok K)) where
    -- what is read is a text within the limits
    pub is_found : (result : Result A E) (new : Unread K) → Reads seen (whole p (start ts size)) result new
        → IfOk result (λ a. Within al texts a ts)
    is_found (Ok a) new h = text_found size ts a new h
    is_found (Err e) new h = tt

    -- each text within the limits is read as its tree, unless memory runs out
    pub is_read : (result : Result A E) (new : Unread K) → Reads seen (whole p (start ts size)) result new
        → (a : A) → Within al texts a ts → ReadAs seen a result
    is_read (Ok b) new h a y = text_read size ts a b new h y
    is_read (Err e) new h a y = by_cause (seen e) refl
      where
        by_cause : (o : Option Refusal) → seen e ≡ o → seen e ≡ None
        by_cause None c = c
        by_cause (Some r) c = absurd (not_refused size ts a r (h r c).refused y)

    -- where it refuses, it is the first fault
    pub is_first : (result : Result A E) (new : Unread K) → Reads seen (whole p (start ts size)) result new
        → IfErr result (λ e. (r : Refusal) → seen e ≡ Some r → FirstFault al texts size ts r)
    is_first (Ok a) new h = tt
    is_first (Err e) new h = λ r c. text_fault size ts r (h r c).refused
