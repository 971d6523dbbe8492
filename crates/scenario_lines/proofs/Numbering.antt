-- An index of an interface as it is made, a signal at a time.
use Rattle.std.proofs.Common.{◌≡◌, ◌≢◌, ◌<◌, ◌≤◌, ◌+◌, ◌^◌, ◌⊎◌, ℕ, Bool, true, false, cond, Option, Some, None}
use Rattle.std.proofs.Common.{List, length, get_or, refl, sym, ap, ◌∙◌, subst, arith, ⊎_elim}
use Rattle.std.specs.Prelude.{All, IsSome, slice_get}
use Rattle.std.specs.HashMap.{UpdatesBy}
use Rattle.std.specs.Str.{bytes_eq}
use Rattle.std.proofs.lemmas.Map.Text.{hash_map_updates_str}
use Rattle.std.proofs.lemmas.Slice.Eq.{bytes_eq-Decides}
use Rattle.std.proofs.lemmas.Option.{slice_get_within, slice_get_read}
use Rattle.hh_term.specs.declared.program.SignalDecl.{SignalDecl}
use Rattle.scenario_lines.specs.Interface.{is_given, given_name, HasKind, HasNames, HasWords, IsGiven}
use Rattle.scenario_lines.specs.Index.{Numbers, number_of, IsIndex, IsIndexBelow}

-- a name that is chosen by a test
chosen : {X : Type 0} (b : Bool) (o : Option X) (x : X) → cond b o None ≡ Some x → (b ≡ true) × (o ≡ Some x)
chosen true o x e = (refl, e)
chosen false o x e = absurd cc

taken : {X : Type 0} (b : Bool) (o : Option X) (x : X) → b ≡ true → o ≡ Some x → cond b o None ≡ Some x
taken true o x t e = e
taken false o x t e = absurd cc

-- the declaration at a place
pub same_signal : (signals : List SignalDecl) (s : ℕ) (d e : SignalDecl) → slice_get signals s ≡ Some d
    → slice_get signals s ≡ Some e → d ≡ e
same_signal signals s d e p q = let both : Some d ≡ Some e = sym p ∙ q in cc

pub given_at : (signals : List SignalDecl) (n : ℕ) (d : SignalDecl) (name : List ℕ)
    → slice_get signals n ≡ Some d → given_name d ≡ Some name → IsGiven signals name n d
given_at signals n d name at e =
    let parts = chosen (is_given d.dir) d.name name e in
    record { at = at; given = parts.0; named = parts.1 }

pub name_of_given : (signals : List SignalDecl) (n : ℕ) (d e : SignalDecl) (name : List ℕ)
    → slice_get signals n ≡ Some d → IsGiven signals name n e → given_name d ≡ Some name
name_of_given signals n d e name at given =
    let same = same_signal signals n e d given.at at in
    subst (λ x. given_name x ≡ Some name) same (taken (is_given e.dir) e.name name given.given given.named)

below_or_at : (s n : ℕ) → s < n + 1 → (s < n) ⊎ (s ≡ n)
below_or_at s n l = grind arith

not_named : (o : Option (List ℕ)) (name : List ℕ) → o ≡ None → o ≡ Some name → ⊥
not_named o name p q = cc

-- a signal that the environment does not give
pub keeps : (signals : List SignalDecl) (numbers : Numbers) (n : ℕ) (d : SignalDecl)
    → slice_get signals n ≡ Some d → given_name d ≡ None → IsIndexBelow signals numbers n
    → IsIndexBelow signals numbers (n + 1)
keeps signals numbers n d at none below =
    let apart : (name : List ℕ) (s : ℕ) (e : SignalDecl) → s ≡ n → IsGiven signals name s e → ⊥ =
    λ name s e same given. not_named (given_name d) name none
    (name_of_given signals n d e name at (subst (λ k. IsGiven signals name k e) same given)) in
    record {
      sound = below.sound;
      words = λ name s e l given. ⊎_elim (λ (lower : s < n). below.words name s e lower given)
          (λ (same : s ≡ n). absurd (apart name s e same given)) (below_or_at s n l);
      complete = λ name s e l given. ⊎_elim (λ (lower : s < n). below.complete name s e lower given)
          (λ (same : s ≡ n). absurd (apart name s e same given)) (below_or_at s n l);
    }

sound_after : (signals : List SignalDecl) (n : ℕ) (d : SignalDecl) (name cs : List ℕ) (s : ℕ) (o : Option ℕ)
    → IsGiven signals name n d → (o ≡ Some s → (e : SignalDecl) × IsGiven signals cs s e) → (b : Bool)
    → bytes_eq name cs ≡ b → cond b (Some n) o ≡ Some s → (e : SignalDecl) × IsGiven signals cs s e
sound_after signals n d name cs s o here old true test at =
    let same : n ≡ s = cc in
    let equal : name ≡ cs = (bytes_eq-Decides name cs).0 test in
    (d, subst (λ k. IsGiven signals cs k d) same (subst (λ k. IsGiven signals k n d) equal here))
sound_after signals n d name cs s o here old false test at = old at

same_name : (signals : List SignalDecl) (n : ℕ) (d e : SignalDecl) (name cs : List ℕ)
    → IsGiven signals name n d → IsGiven signals cs n e → name ≡ cs
same_name signals n d e name cs here there =
    let same = same_signal signals n d e here.at there.at in
    let both : Some name ≡ Some cs = sym here.named ∙ ap (λ (x : SignalDecl). x.name) same ∙ there.named in
    cc

complete_after : (signals : List SignalDecl) (n s : ℕ) (d e : SignalDecl) (name cs : List ℕ) (o : Option ℕ)
    → IsGiven signals name n d → IsGiven signals cs s e → (s < n → IsSome o) → s < n + 1 → (b : Bool)
    → bytes_eq name cs ≡ b → IsSome (cond b (Some n) o)
complete_after signals n s d e name cs o here there old l true test = refl
complete_after signals n s d e name cs o here there old l false test =
    ⊎_elim old (λ (same : s ≡ n).
    let equal = same_name signals n d e name cs here (subst (λ k. IsGiven signals cs k e) same there) in
    let yes : bytes_eq name cs ≡ true = (bytes_eq-Decides name cs).1 equal in
    let no : true ≡ false = sym yes ∙ test in absurd cc) (below_or_at s n l)

pub adds : (signals : List SignalDecl) (old new : Numbers) (n : ℕ) (d : SignalDecl) (name : List ℕ)
    → slice_get signals n ≡ Some d → given_name d ≡ Some name → All (λ b. b ≢ 40) name
    → UpdatesBy (λ x y. bytes_eq x.now y.now) (λ k. bytes_eq name k.now) old new (Some n)
    → IsIndexBelow signals old n → IsIndexBelow signals new (n + 1)
adds signals old new n d name at named word updates below =
    let here = given_at signals n d name at named in
    let found : (cs : List ℕ) → number_of new cs ≡ cond (bytes_eq name cs) (Some n) (number_of old cs) =
    hash_map_updates_str name old new (Some n) updates in
    record {
      sound = λ cs s at. sound_after signals n d name cs s (number_of old cs) here (below.sound cs s)
          (bytes_eq name cs) refl (sym (found cs) ∙ at);
      words = λ cs s e l given. ⊎_elim (λ (lower : s < n). below.words cs s e lower given)
          (λ (same : s ≡ n). subst (All (λ b. b ≢ 40)) (same_name signals n d e name cs here
          (subst (λ k. IsGiven signals cs k e) same given)) word) (below_or_at s n l);
      complete = λ cs s e l given. subst IsSome (sym (found cs)) (complete_after signals n s d e name cs
          (number_of old cs) here given (λ lower. below.complete cs s e lower given) l (bytes_eq name cs)
          refl);
    }

-- a signal that is given is declared
pub within : (signals : List SignalDecl) (name : List ℕ) (s : ℕ) (d : SignalDecl) → IsGiven signals name s d
    → s < length signals
within signals name s d given = slice_get_within signals s d given.at

-- once no signal is left
pub whole : (signals : List SignalDecl) (numbers : Numbers) (n : ℕ) → length signals ≤ n
    → IsIndexBelow signals numbers n → IsIndex signals numbers
whole signals numbers n all below = record {
  sound = below.sound;
  complete = λ name s d given. let inside = within signals name s d given in
      below.complete name s d (omega arith) given;
}

pub all_words : (signals : List SignalDecl) (numbers : Numbers) (n : ℕ) → HasNames signals
    → length signals ≤ n → IsIndexBelow signals numbers n → HasWords signals
all_words signals numbers n names all below = record {
  words = λ name s d given. let inside = within signals name s d given in
      below.words name s d (omega arith) given;
  distinct = names.distinct;
}

-- the number of a named signal is one of 32 bits
pub number_fits : (signals : List SignalDecl) (n : ℕ) (d : SignalDecl) (name : List ℕ) → HasNames signals
    → slice_get signals n ≡ Some d → given_name d ≡ Some name → n < 2 ^ 32
number_fits signals n d name names at named = names.numbered name n d (given_at signals n d name at named)

-- where the index finds nothing, no signal has the name
pub unfound : (signals : List SignalDecl) (numbers : Numbers) (name : List ℕ) → IsIndex signals numbers
    → number_of numbers name ≡ None → (s : ℕ) (d : SignalDecl) → IsGiven signals name s d → ⊥
unfound signals numbers name index none s d given =
    let nothing : IsSome {T = ℕ} None = subst IsSome none (index.complete name s d given) in
    cc

pub found_within : (signals : List SignalDecl) (numbers : Numbers) (name : List ℕ) (s : ℕ)
    → IsIndex signals numbers → number_of numbers name ≡ Some s → s < length signals
found_within signals numbers name s index at =
    let known = index.sound name s at in within signals name s known.0 known.1

-- what it finds
pub found : (signals : List SignalDecl) (numbers : Numbers) (name : List ℕ) (s : ℕ) (d : SignalDecl)
    → IsIndex signals numbers → number_of numbers name ≡ Some s → d ≡ get_or signals s d
    → HasKind signals name s (get_or signals s d).kind
found signals numbers name s d index at read =
    let known = index.sound name s at in
    let inside = within signals name s known.0 known.1 in
    let here = slice_get_read signals (length signals) s d refl inside read in
    let same = same_signal signals s known.0 d known.1.at here in
    record { signal = known.0; given = known.1; kind_is = ap (λ (x : SignalDecl). x.kind) (same ∙ read) }
