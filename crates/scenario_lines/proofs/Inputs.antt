-- What the parts of a `react` line give.
use Rattle.std.proofs.Common.{◌≡◌, ◌≢◌, ◌<◌, ℕ, true, false, Some, None, List, [], ◌∷◌, ◌++◌}
use Rattle.std.proofs.Common.{length, refl, sym, ap, ◌∙◌, subst, arith, inl, inr, ⊎_elim, append_assoc}
use Rattle.std.proofs.Common.{append-nil}
use Rattle.std.specs.Prelude.{All, IfSome, codes}
use Rattle.std.proofs.lemmas.List.{append_cancel_right, get_or_at, length-append}
use Rattle.hh_base.specs.declared.value.Kind.{Kind}
use Rattle.hh_base.specs.declared.value.Value.{Value}
use Rattle.hh_base.specs.declared.value.Value.TheVariants as a_value
use Rattle.hh_base.specs.Value.{is_valued, kind_of}
use Rattle.hh_term.specs.declared.program.SignalDecl.{SignalDecl}
use Rattle.reaction_run.specs.declared.event.Input.{Input}
use Rattle.scenario_lines.specs.Cut.{IsCut}
use Rattle.scenario_lines.specs.Interface.{HasKind, HasWords, IsGiven}
use Rattle.scenario_lines.specs.Literals.{IsValue}
use Rattle.scenario_lines.specs.Reader.{Carries, IsBracketed, IsRefusedPart, IsTheInput, Within, valued}
use Rattle.scenario_lines.specs.Scenario.{GivesPure, GivesValue, IsInput}
use Rattle.scenario_lines.specs.Tells.{Tells}
use Rattle.scenario_lines.proofs.Cuts.{same_cut}
use Rattle.scenario_lines.proofs.Numbering.{same_signal, within}

-- what stands in parentheses is one text
pub same_inner : (bytes a b : List ℕ) → Within bytes a → Within bytes b → a ≡ b
same_inner bytes a b e f =
    let both : 40 ∷ (a ++ 41 ∷ []) ≡ 40 ∷ (b ++ 41 ∷ []) = sym e ∙ f in
    let tails : a ++ 41 ∷ [] ≡ b ++ 41 ∷ [] = cc in
    append_cancel_right a b (41 ∷ []) tails

pub bracketed : (bytes literal : List ℕ) (v : Value) → Within bytes literal → IsValue literal v
    → IfSome (valued v) (IsBracketed bytes)
bracketed bytes literal a_value.Unit w is = tt
bracketed bytes literal (a_value.Int n) w is =
    record { literal = literal; text = w; value = is; some = λ e. absurd cc }
bracketed bytes literal (a_value.Bool b) w is =
    record { literal = literal; text = w; value = is; some = λ e. absurd cc }
bracketed bytes literal (a_value.Text t) w is =
    record { literal = literal; text = w; value = is; some = λ e. absurd cc }

still_some : (v : Value) → v ≢ a_value.Unit → valued v ≡ Some v
still_some a_value.Unit some = absurd (some refl)
still_some (a_value.Int n) some = refl
still_some (a_value.Bool b) some = refl
still_some (a_value.Text t) some = refl

pub bracketed_only : (bytes literal : List ℕ) (v w : Value) → Within bytes literal
    → ((u : Value) → IsValue literal u → Some v ≡ Some u) → IsBracketed bytes w → valued v ≡ Some w
bracketed_only bytes literal v w within only b =
    let inner = same_inner bytes b.literal literal b.text within in
    let e : Some v ≡ Some w = only w (subst (λ l. IsValue l w) inner b.value) in
    let same : w ≡ v = cc in
    ap valued (sym same) ∙ still_some w b.some

-- a part by its name and what stands behind it
pub record Reads (signals : List SignalDecl) (name rest : List ℕ) (i : Input) : Type 0 where
  pub signal : SignalDecl
  pub given : IsGiven signals name i.signal signal
  pub carries : Carries rest i.value
  pub kind : kind_of i.value ≡ signal.kind

lacks_none : (xs ys : List ℕ) → All (λ b. b ≢ 40) (xs ++ 40 ∷ ys) → ⊥
lacks_none xs ys all =
    all (length xs) 40 (simp length-append (omega arith)) (get_or_at xs 40 ys 40 (length xs) refl)

bracket_front : (name literal : List ℕ) → name ++ codes "(" ++ literal ++ codes ")" ≡ name ++ 40 ∷ (literal ++ 41 ∷ [])
bracket_front name literal =
    ap (λ l. l ++ 41 ∷ []) (append_assoc name (40 ∷ []) literal) ∙ append_assoc name (40 ∷ literal) (41 ∷ [])

carried_kind : (v : Value) → is_valued (kind_of v) ≡ true → v ≢ a_value.Unit
carried_kind v h = λ e. let no : false ≡ true = sym (ap (λ u. is_valued (kind_of u)) e) ∙ h in absurd cc

valued_kind : (v : Value) → v ≢ a_value.Unit → is_valued (kind_of v) ≡ true
valued_kind a_value.Unit some = absurd (some refl)
valued_kind (a_value.Int n) some = refl
valued_kind (a_value.Bool b) some = refl
valued_kind (a_value.Text t) some = refl

pub reads_pure : (signals : List SignalDecl) (part name rest : List ℕ) (i : Input) → HasWords signals
    → IsCut 40 part name rest → GivesPure signals part i → Reads signals name rest i
reads_pure signals part name [] i names cut p =
    let whole : part ≡ name = cut.whole ∙ append-nil name in
    record {
      signal = p.signal;
      given = subst (λ n. IsGiven signals n i.signal p.signal) whole p.given;
      carries = inl (refl, p.value);
      kind = ap kind_of p.value ∙ sym p.kind;
    }
reads_pure signals part name (b ∷ rest) i names cut p =
    let word : All (λ c. c ≢ 40) part = names.words part i.signal p.signal p.given in
    let whole : part ≡ name ++ 40 ∷ rest = cut.whole ∙ ap (λ c. name ++ c ∷ rest) cut.starts in
    absurd (lacks_none name rest (subst (All (λ c. c ≢ 40)) whole word))

pub reads_value : (signals : List SignalDecl) (part name rest : List ℕ) (i : Input) → HasWords signals
    → IsCut 40 part name rest → GivesValue signals part i → Reads signals name rest i
reads_value signals part name rest i names cut p =
    let word = names.words p.name i.signal p.signal p.given in
    let same = same_cut 40 name p.name rest (40 ∷ (p.literal ++ 41 ∷ [])) cut.lacks word cut.starts refl
    (sym cut.whole ∙ p.part_is ∙ bracket_front p.name p.literal) in
    record {
      signal = p.signal;
      given = subst (λ n. IsGiven signals n i.signal p.signal) (sym same.0) p.given;
      carries = inr (record {
        literal = p.literal;
        text = same.1;
        value = p.value;
        some = carried_kind i.value (ap is_valued p.kind ∙ p.valued);
      });
      kind = p.kind;
    }

pub reads : (signals : List SignalDecl) (part name rest : List ℕ) (i : Input) → HasWords signals
    → IsCut 40 part name rest → IsInput signals part i → Reads signals name rest i
reads signals part name rest i names cut is =
    ⊎_elim (reads_pure signals part name rest i names cut) (reads_value signals part name rest i names cut) is

pub gives : (signals : List SignalDecl) (part name rest : List ℕ) (i : Input) → IsCut 40 part name rest
    → Reads signals name rest i → IsInput signals part i
gives signals part name rest i cut r =
    ⊎_elim
    (λ (none : (rest ≡ []) × (i.value ≡ a_value.Unit)).
    let whole : part ≡ name = cut.whole ∙ ap (λ l. name ++ l) none.0 ∙ append-nil name in
    inl (record {
      signal = r.signal;
      given = subst (λ n. IsGiven signals n i.signal r.signal) (sym whole) r.given;
      kind = sym r.kind ∙ ap kind_of none.1;
      value = none.1;
    }))
    (λ (b : IsBracketed rest i.value). inr (record {
      signal = r.signal;
      name = name;
      given = r.given;
      literal = b.literal;
      part_is = cut.whole ∙ ap (λ l. name ++ l) b.text ∙ sym (bracket_front name b.literal);
      value = b.value;
      valued = ap is_valued (sym r.kind) ∙ valued_kind i.value b.some;
      kind = r.kind;
    }))
    r.carries

-- no signal has the name
pub nameless : (signals : List SignalDecl) (part name rest : List ℕ) → HasWords signals
    → IsCut 40 part name rest → ((s : ℕ) (d : SignalDecl) → IsGiven signals name s d → ⊥)
    → Tells (IsInput signals part) None
nameless signals part name rest names cut none = record {
  found = tt;
  only = λ i is. let r = reads signals part name rest i names cut is in absurd (none i.signal r.signal r.given);
}

some_none : {X : Type 0} (x : X) → None ≡ Some x → ⊥
some_none x e = cc

-- or no value stands behind it
pub valueless : (signals : List SignalDecl) (part name rest : List ℕ) → HasWords signals
    → IsCut 40 part name rest → ((v : Value) → Carries rest v → None ≡ Some v)
    → Tells (IsInput signals part) None
valueless signals part name rest names cut none = record {
  found = tt;
  only = λ i is. let r = reads signals part name rest i names cut is in
      absurd (some_none i.value (none i.value r.carries));
}

-- the input that the name and the value give can only be this one
one_input : (signals : List SignalDecl) (name rest : List ℕ) (s : ℕ) (k : Kind) (v : Value) (i : Input)
    → HasWords signals → HasKind signals name s k → ((w : Value) → Carries rest w → Some v ≡ Some w)
    → Reads signals name rest i → (i.signal ≡ s) × (i.value ≡ v) × (kind_of v ≡ k)
one_input signals name rest s k v i names has only r =
    let number = names.distinct name i.signal s r.signal has.signal r.given has.given in
    let carried : Some v ≡ Some i.value = only i.value r.carries in
    let value : i.value ≡ v = cc in
    let signal = same_signal signals s r.signal has.signal (subst (λ t. IsGiven signals name t r.signal) number r.given).at has.given.at in
    (number, value, ap kind_of (sym value) ∙ r.kind ∙ ap (λ (d : SignalDecl). d.kind) signal ∙ has.kind_is)

-- or one of another kind
pub kindless : (signals : List SignalDecl) (part name rest : List ℕ) (s : ℕ) (k : Kind) (v : Value)
    → HasWords signals → IsCut 40 part name rest → HasKind signals name s k
    → ((w : Value) → Carries rest w → Some v ≡ Some w) → kind_of v ≢ k → Tells (IsInput signals part) None
kindless signals part name rest s k v names cut has only other = record {
  found = tt;
  only = λ i is.
      let r = reads signals part name rest i names cut is in
      absurd (other (one_input signals name rest s k v i names has only r).2);
}

pub input : (signals : List SignalDecl) (part name rest : List ℕ) (s : ℕ) (k : Kind) (v : Value)
    → HasWords signals → IsCut 40 part name rest → HasKind signals name s k
    → ((w : Value) → Carries rest w → Some v ≡ Some w) → Carries rest v → kind_of v ≡ k
    → Tells (IsInput signals part) (Some (record { signal = s; value = v }))
input signals part name rest s k v names cut has only carried kind = record {
  found = gives signals part name rest (record { signal = s; value = v }) cut (record {
    signal = has.signal;
    given = has.given;
    carries = carried;
    kind = kind ∙ sym has.kind_is;
  });
  only = λ i is.
      let r = reads signals part name rest i names cut is in
      let one = one_input signals name rest s k v i names has only r in
      let number = one.0 in
      let value = one.1 in
      let same : record { signal = s; value = v } ≡ i = λ j. record { signal = sym number j; value = sym value j } in
      ap Some same;
}

-- an input's signal is declared
pub input_within : (signals : List SignalDecl) (part : List ℕ) (i : Input) → IsInput signals part i
    → i.signal < length signals
input_within signals part i is =
    ⊎_elim (λ (p : GivesPure signals part i). within signals part i.signal p.signal p.given)
    (λ (p : GivesValue signals part i). within signals p.name i.signal p.signal p.given) is

pub the_input : (signals : List SignalDecl) (part : List ℕ) (i : Input) → Tells (IsInput signals part) (Some i)
    → IsTheInput signals part i
the_input signals part i t = record {
  gives = t.found;
  only = λ j is. let e : Some i ≡ Some j = t.only j is in (let same : j ≡ i = cc in same);
}

pub no_part : (signals : List SignalDecl) (part : List ℕ) (n : ℕ) (noted : List ℕ)
    → Tells (IsInput signals part) None → IsRefusedPart signals part n noted
no_part signals part n noted t = inl (λ i is. some_none i (t.only i is))
