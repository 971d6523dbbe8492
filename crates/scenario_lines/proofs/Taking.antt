-- What the parts of a `react` line give, a part at a time.
use Rattle.std.proofs.Common.{◌≡◌, ◌≢◌, ◌<◌, ◌≤◌, ℕ, Some, None, List, [], ◌∷◌, ◌++◌, length, get_or, set}
use Rattle.std.proofs.Common.{refl, sym, ap, ◌∙◌, subst, arith, ⊎_elim, append_assoc, append-nil}
use Rattle.std.proofs.Common.{get_or-set_same, get_or-set_other}
use Rattle.std.specs.Prelude.{All, AllPairs, Contains}
use Rattle.std.specs.List.{AllZip}
use Rattle.std.proofs.lemmas.List.{get_or_at, length-set, length-append, get_or_append_left, map_push, map-append}
use Rattle.std.proofs.lemmas.List.Elements.{All-nil, All-push, All-set, Contains-append_left, Contains-push}
use Rattle.std.proofs.lemmas.Bool.{cases_eq}
use Rattle.std.proofs.lemmas.List.Quantifiers.{all_pairs_push}
use Rattle.hh_term.specs.declared.program.SignalDecl.{SignalDecl}
use Rattle.reaction_run.specs.declared.event.Input.{Input}
use Rattle.scenario_lines.specs.Lines.{parts_of}
use Rattle.scenario_lines.specs.Reader.{IsRefusedPart, IsTakenPart, IsTheInput}
use Rattle.scenario_lines.specs.Scenario.{AreInputs, IsInput, signals_in}
use Rattle.scenario_lines.specs.Tells.{Tells}

-- the parts of the line are read up to the rest; noted has for each signal the last line that named it
pub record TakenSoFar (signals : List SignalDecl) (line : List ℕ) (n : ℕ) (inputs : List Input)
    (rest noted : List ℕ) : Type 0 where
  pub before : List (List ℕ)
  pub parts : parts_of line ≡ before ++ parts_of rest
  pub each : AllZip (IsTheInput signals) before inputs
  pub once : AllPairs (λ s t. s ≢ t) (signals_in inputs)
  pub until : All (λ m. m ≤ n) noted
  pub within : All (λ s. s < length noted) (signals_in inputs)
  pub marked : All (λ s. get_or noted s 0 ≡ n) (signals_in inputs)
  pub named : (s : ℕ) → s < length noted → get_or noted s 0 ≡ n → Contains (signals_in inputs) s

-- before the first part
pub start : (signals : List SignalDecl) (line : List ℕ) (n : ℕ) (noted : List ℕ) → All (λ m. m < n) noted
    → TakenSoFar signals line n [] line noted
start signals line n noted older = record {
  before = [];
  parts = refl;
  each = tt;
  once = λ i j d l m. absurd (omega arith);
  until = λ k d l. let below = older k d l in omega arith;
  within = All-nil (λ s. s < length noted);
  marked = All-nil (λ s. get_or noted s 0 ≡ n);
  named = λ s l e. let below = older s 0 l in absurd (omega arith);
}

zip_push : (signals : List SignalDecl) (before : List (List ℕ)) (inputs : List Input) (part : List ℕ)
    (i : Input) → AllZip (IsTheInput signals) before inputs → IsTheInput signals part i
    → AllZip (IsTheInput signals) (before ++ part ∷ []) (inputs ++ i ∷ [])
zip_push signals [] [] part i each here = (here, tt)
zip_push signals [] (j ∷ inputs) part i each here = absurd each
zip_push signals (p ∷ before) [] part i each here = absurd each
zip_push signals (p ∷ before) (j ∷ inputs) part i each here =
    (each.0, zip_push signals before inputs part i each.1 here)

-- the marks of the others stay
marked_still : (n : ℕ) (inputs noted : List ℕ) (s : ℕ)
    → ((k : ℕ) (d : ℕ) → k < length inputs → get_or inputs k d ≢ s) → All (λ t. get_or noted t 0 ≡ n) inputs
    → All (λ t. get_or (set noted s n) t 0 ≡ n) inputs
marked_still n inputs noted s apart marked =
    λ k d l. get_or-set_other noted s (get_or inputs k d) n 0 (apart k d l) ∙ marked k d l

named_still : (n : ℕ) (inputs noted : List ℕ) (s t : ℕ)
    → ((u : ℕ) → u < length noted → get_or noted u 0 ≡ n → Contains inputs u) → t < length (set noted s n)
    → get_or (set noted s n) t 0 ≡ n → Contains (inputs ++ s ∷ []) t
named_still n inputs noted s t named l e =
    ⊎_elim
    (λ (same : t ≡ s). subst (Contains (inputs ++ s ∷ [])) (sym same) (Contains-push inputs s))
    (λ (other : t ≢ s). Contains-append_left inputs (s ∷ []) t (named t (rw length-set at l)
    (sym (get_or-set_other noted s t n 0 other) ∙ e)))
    (cases_eq t s)

-- one more part is taken
pub step : (signals : List SignalDecl) (line : List ℕ) (n : ℕ) (inputs : List Input)
    (rest noted part behind new : List ℕ) (i : Input) → parts_of rest ≡ part ∷ parts_of behind
    → IsTakenPart signals part n noted new i → TakenSoFar signals line n inputs rest noted
    → TakenSoFar signals line n (inputs ++ i ∷ []) behind new
step signals line n inputs rest noted part behind new i parts taken far =
    let s = i.signal in
    let own = signals_in inputs in
    let apart : (k : ℕ) (d : ℕ) → k < length own → get_or own k d ≢ s =
    λ k d l e. taken.once (subst (λ t. get_or noted t 0 ≡ n) e (far.marked k d l)) in
    let all : signals_in (inputs ++ i ∷ []) ≡ own ++ s ∷ [] = map_push (λ (j : Input). j.signal) inputs i in
    record {
      before = far.before ++ part ∷ [];
      parts = far.parts ∙ ap (λ ps. far.before ++ ps) parts
          ∙ sym (append_assoc far.before (part ∷ []) (parts_of behind));
      each = zip_push signals far.before inputs part i far.each taken.input;
      once = subst (AllPairs (λ s t. s ≢ t)) (sym all) (all_pairs_push (λ a b. a ≢ b) own s far.once apart);
      until = subst (All (λ m. m ≤ n)) (sym taken.new_is) (All-set (λ m. m ≤ n) noted s n (omega arith)
          far.until);
      within = subst (All (λ t. t < length new)) (sym all) (rw taken.new_is (rw length-set
          (All-push (λ t. t < length noted) own s far.within taken.noted)));
      marked = subst (All (λ t. get_or new t 0 ≡ n)) (sym all) (rw taken.new_is
          (All-push (λ t. get_or (set noted s n) t 0 ≡ n) own s (marked_still n own noted s apart far.marked)
          (get_or-set_same noted s n 0 taken.noted)));
      named = λ t l e. subst (λ ss. Contains ss t) (sym all) (named_still n own noted s t far.named
          (subst (λ ms. t < length ms) taken.new_is l) (subst (λ ms. get_or ms t 0 ≡ n) taken.new_is e));
    }

zip_gives : (signals : List SignalDecl) (parts : List (List ℕ)) (inputs : List Input)
    → AllZip (IsTheInput signals) parts inputs → AllZip (IsInput signals) parts inputs
zip_gives signals [] [] each = tt
zip_gives signals [] (i ∷ inputs) each = absurd each
zip_gives signals (p ∷ parts) [] each = absurd each
zip_gives signals (p ∷ parts) (i ∷ inputs) each = (each.0.gives, zip_gives signals parts inputs each.1)

zip_only : (signals : List SignalDecl) (parts : List (List ℕ)) (inputs others : List Input)
    → AllZip (IsTheInput signals) parts inputs → AllZip (IsInput signals) parts others → others ≡ inputs
zip_only signals [] [] [] each are = refl
zip_only signals [] [] (j ∷ others) each are = absurd are
zip_only signals [] (i ∷ inputs) others each are = absurd each
zip_only signals (p ∷ parts) [] others each are = absurd each
zip_only signals (p ∷ parts) (i ∷ inputs) [] each are = absurd are
zip_only signals (p ∷ parts) (i ∷ inputs) (j ∷ others) each are =
    let same = each.0.only j are.0 in
    let more = zip_only signals parts inputs others each.1 are.1 in
    ap (λ k. k ∷ others) same ∙ ap (λ ks. i ∷ ks) more

-- behind the last part
pub finish : (signals : List SignalDecl) (line : List ℕ) (n : ℕ) (inputs : List Input) (rest noted : List ℕ)
    → parts_of rest ≡ [] → TakenSoFar signals line n inputs rest noted
    → Tells (AreInputs signals (parts_of line)) (Some inputs)
finish signals line n inputs rest noted none far =
    let whole : far.before ≡ parts_of line =
    sym (far.parts ∙ ap (λ ps. far.before ++ ps) none ∙ append-nil far.before) in
    record {
      found = record {
        each = subst (λ ps. AllZip (IsInput signals) ps inputs) whole (zip_gives signals far.before inputs
            far.each);
        once = far.once;
      };
      only = λ others are. ap Some (sym (zip_only signals far.before inputs others far.each
          (subst (λ ps. AllZip (IsInput signals) ps others) (sym whole) are.each)));
    }

-- the input of a part behind some others
zip_split : (signals : List SignalDecl) (before : List (List ℕ)) (part : List ℕ) (more : List (List ℕ))
    (inputs others : List Input) → AllZip (IsTheInput signals) before inputs
    → AllZip (IsInput signals) (before ++ part ∷ more) others
    → (i : Input) × (rest : List Input) × (others ≡ inputs ++ i ∷ rest) × IsInput signals part i
zip_split signals [] part more [] [] each are = absurd are
zip_split signals [] part more [] (i ∷ rest) each are = (i, rest, refl, are.0)
zip_split signals [] part more (j ∷ inputs) others each are = absurd each
zip_split signals (p ∷ before) part more [] others each are = absurd each
zip_split signals (p ∷ before) part more (j ∷ inputs) [] each are = absurd are
zip_split signals (p ∷ before) part more (j ∷ inputs) (k ∷ others) each are =
    let same = each.0.only k are.0 in
    let parts = zip_split signals before part more inputs others each.1 are.1 in
    (parts.0, parts.1, ap (λ l. l ∷ others) same ∙ ap (λ ls. j ∷ ls) parts.2, parts.3)

-- a signal that stands twice
repeated : (xs : List ℕ) (s : ℕ) (ys : List ℕ) → Contains xs s → AllPairs (λ a b. a ≢ b) (xs ++ s ∷ ys) → ⊥
repeated xs s ys held once =
    let k = held.0 in
    let inside : k < length xs = held.1 in
    let long : length xs < length (xs ++ s ∷ ys) = simp length-append (omega arith) in
    once k (length xs) s inside long (get_or_append_left xs (s ∷ ys) s k inside ∙ held.2
    ∙ sym (get_or_at xs s ys s (length xs) refl))

refused_next : (signals : List SignalDecl) (n : ℕ) (inputs rest : List Input) (noted part : List ℕ)
    (i : Input) → IsRefusedPart signals part n noted
    → ((s : ℕ) → s < length noted → get_or noted s 0 ≡ n → Contains (signals_in inputs) s)
    → IsInput signals part i → AllPairs (λ s t. s ≢ t) (signals_in (inputs ++ i ∷ rest)) → ⊥
refused_next signals n inputs rest noted part i refused named is once =
    ⊎_elim
    (λ (none : (j : Input) → IsInput signals part j → ⊥). none i is)
    (λ (before : (j : Input) × IsTheInput signals part j × (j.signal < length noted)
    × (get_or noted j.signal 0 ≡ n)).
    let same : i.signal ≡ before.0.signal = ap (λ (k : Input). k.signal) (before.1.only i is) in
    let held : Contains (signals_in inputs) i.signal =
    subst (Contains (signals_in inputs)) (sym same) (named before.0.signal before.2 before.3) in
    repeated (signals_in inputs) i.signal (signals_in rest) held
    (subst (AllPairs (λ s t. s ≢ t)) (map-append (λ (k : Input). k.signal) inputs (i ∷ rest)) once))
    refused

-- at a part that is refused
pub refuse : (signals : List SignalDecl) (line : List ℕ) (n : ℕ) (inputs : List Input)
    (rest noted part behind : List ℕ) → parts_of rest ≡ part ∷ parts_of behind
    → IsRefusedPart signals part n noted → TakenSoFar signals line n inputs rest noted
    → Tells (AreInputs signals (parts_of line)) None
refuse signals line n inputs rest noted part behind parts refused far = record {
  found = tt;
  only = λ others are.
      let whole : parts_of line ≡ far.before ++ part ∷ parts_of behind =
      far.parts ∙ ap (λ ps. far.before ++ ps) parts in
      let split = zip_split signals far.before part (parts_of behind) inputs others far.each
      (subst (λ ps. AllZip (IsInput signals) ps others) whole are.each) in
      absurd (refused_next signals n inputs split.1 noted part split.0 refused far.named split.3
      (subst (λ is. AllPairs (λ s t. s ≢ t) (signals_in is)) split.2 are.once));
}
