-- Comments: where they end.
use Rattle.std.proofs.Common.{◌≡◌, ◌≢◌, ℕ, suc, ◌+◌, Bool, true, false, not, List, [], ◌∷◌, ◌++◌, length}
use Rattle.std.proofs.Common.{drop, take, Option, Some, None, refl, sym, ap, subst, ◌∙◌, arith}
use Rattle.std.specs.Prelude.{◌==◌, ◌&&◌, ◌||◌, option_map, if◌then◌else◌, cond}
use Rattle.std.specs.List.{position_or_len, AllByRecursion}
use Rattle.std.proofs.lemmas.Bool.Decides.{nat_tests}
use Rattle.module_token.specs.Gap.{EndsLine, begins_with, starts_close, has_close}
use Rattle.module_token.specs.Front.{close_of}

-- ---- to the end of the line

abbrev pub line : List ℕ → ℕ
line text = position_or_len (λ c. c == 10) text

other : (b : ℕ) → b ≢ 10 → (b == 10) ≡ false
other b h = grind (arith, nat_tests)

same : (b : ℕ) → (b == 10) ≡ true → b ≡ 10
same b h = grind (arith, nat_tests)

differs : (b : ℕ) → (b == 10) ≡ false → b ≢ 10
differs b h = grind (arith, nat_tests)

line_ends : (rest : List ℕ) → EndsLine rest → line rest ≡ 0
line_ends [] h = refl
line_ends (b ∷ bs) h = rw h refl

pub line_is : (body rest : List ℕ) → AllByRecursion (λ b. b ≢ 10) body → EndsLine rest
    → line (body ++ rest) ≡ length body
line_is [] rest all ends = line_ends rest ends
line_is (b ∷ body) rest all ends = ap (λ t. cond (not t) (1 + line (body ++ rest)) 0) (other b all.0)
    ∙ (let n = line_is body rest all.1 ends in omega (arith, n))

pub line_all : (text : List ℕ) → AllByRecursion (λ b. b ≢ 10) (take (line text) text)
    × EndsLine (drop (line text) text)
line_all [] = (tt, tt)
line_all (b ∷ bs) =
    elim (b == 10) as (λ t. (b == 10) ≡ t → AllByRecursion (λ b. b ≢ 10)
    (take (cond (not t) (1 + line bs) 0) (b ∷ bs))
    × EndsLine (drop (cond (not t) (1 + line bs) 0) (b ∷ bs))) [
      | true ↦ λ e. (tt, same b e)
      | false ↦ λ e. subst (λ n. AllByRecursion (λ b. b ≢ 10) (take n (b ∷ bs))
          × EndsLine (drop n (b ∷ bs))) more ((differs b e, (line_all bs).0), (line_all bs).1)
    ] refl
  where
    more : suc (line bs) ≡ 1 + line bs
    more = omega arith

-- ---- to the next `*/`

or_false : (a b : Bool) → (a || b) ≡ false → (a ≡ false) × (b ≡ false)
or_false true b h = cc
or_false false b h = (refl, h)

begins_same : (body rest more : List ℕ) → begins_with 47 (body ++ 42 ∷ rest) ≡ begins_with 47
    (body ++ 42 ∷ more)
begins_same [] rest more = refl
begins_same (b ∷ body) rest more = refl

starts_same : (b : ℕ) (body rest more : List ℕ) → starts_close (b ∷ (body ++ 42 ∷ rest)) ≡ starts_close
    (b ∷ (body ++ 42 ∷ more))
starts_same b body rest more = ap (λ t. (b == 42) && t) (begins_same body rest more)

pub close_is : (body rest : List ℕ) → has_close (body ++ 42 ∷ []) ≡ false
    → close_of (body ++ 42 ∷ 47 ∷ rest) ≡ Some (length body + 2)
close_is [] rest h = refl
close_is (b ∷ body) rest h =
    let q = or_false (starts_close (b ∷ (body ++ 42 ∷ []))) (has_close (body ++ 42 ∷ [])) h in
    rw (starts_same b body (47 ∷ rest) [] ∙ q.0) (ap (option_map suc) (close_is body rest q.1)
    ∙ ap Some (omega arith))

pub close_lacks : (body : List ℕ) → has_close body ≡ false → close_of body ≡ None
close_lacks [] h = refl
close_lacks (b ∷ body) h = let q = or_false (starts_close (b ∷ body)) (has_close body) h in
    rw q.0 (ap (option_map suc) (close_lacks body q.1))

-- a body that is closed by the first `*/`
pub record Closed (text : List ℕ) (n : ℕ) : Type 0 where
  pub body : List ℕ
  pub rest : List ℕ
  pub split : text ≡ body ++ 42 ∷ 47 ∷ rest
  pub ends : n ≡ length body + 2
  pub first : has_close (body ++ 42 ∷ []) ≡ false

abbrev pub ClosedBy : List ℕ → Option ℕ → Type 0
ClosedBy text None = has_close text ≡ false
ClosedBy text (Some n) = Closed text n

starts_parts : (b : ℕ) (bs : List ℕ) → starts_close (b ∷ bs) ≡ true
    → (rest : List ℕ) × (b ∷ bs ≡ 42 ∷ 47 ∷ rest)
starts_parts b [] h = absurd (let no : ⊥ = grind (arith, nat_tests) in no)
starts_parts b (d ∷ bs) h = (bs, let q = both b d h in ap (λ c. c ∷ d ∷ bs) q.0 ∙ ap (λ c. 42 ∷ c ∷ bs) q.1)
  where
    both : (b d : ℕ) → ((b == 42) && (d == 47)) ≡ true → (b ≡ 42) × (d ≡ 47)
    both b d h = grind (arith, nat_tests)

closed_more : (b : ℕ) (bs : List ℕ) → starts_close (b ∷ bs) ≡ false → (o : Option ℕ) → ClosedBy bs o
    → ClosedBy (b ∷ bs) (option_map suc o)
closed_more b bs never None h = rw never h
closed_more b bs never (Some n) h =
    record {
      body = b ∷ h.body;
      rest = h.rest;
      split = ap (λ l. b ∷ l) h.split;
      ends = omega (arith, h.ends);
      first = rw (starts_same b h.body [] (47 ∷ h.rest) ∙ ap (λ l. starts_close (b ∷ l)) (sym h.split)
          ∙ never) h.first;
    }

pub close_found : (text : List ℕ) → ClosedBy text (close_of text)
close_found [] = refl
close_found (b ∷ bs) =
    elim (starts_close (b ∷ bs)) as (λ t. starts_close (b ∷ bs) ≡ t
    → ClosedBy (b ∷ bs) (if t then Some 2 else option_map suc (close_of bs))) [
      | true ↦ λ e. let q = starts_parts b bs e in record {
        body = [];
        rest = q.0;
        split = q.1;
        ends = refl;
        first = refl;
      }
      | false ↦ λ e. closed_more b bs e (close_of bs) (close_found bs)
    ] refl
