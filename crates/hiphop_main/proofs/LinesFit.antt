-- The lines of a scenario fit the interface of its program, and are no more than the bytes of its text.
use Rattle.std.proofs.Common.{◌≡◌, ◌≢◌, ℕ, zero, suc, ◌+◌, ◌<◌, ◌≤◌, Bool, true, false, cond, Option, List, [], ◌∷◌}
use Rattle.std.proofs.Common.{length, take, drop, All, refl, sym, ◌∙◌, ap, subst, arith, inl, inr, ◌==◌, ◌&&◌, slice_get, rules}
use Rattle.std.specs.List.{AllByRecursion, AllByRecursion-prop, AllPairs, AllZip, slice_index_or}
use Rattle.std.proofs.Math.Logic.{∥∥₁_elim}
use Rattle.std.proofs.Math.Bool.{Bool-set}
use Rattle.hh_base.specs.declared.value.Dir.{Dir}
use Rattle.hh_base.specs.declared.value.Dir.TheVariants as dir
use Rattle.hh_base.specs.declared.value.Kind.TheVariants as kind
use Rattle.hh_base.specs.declared.value.Value.TheVariants as value
use Rattle.hh_base.specs.Value.{kind_of}
use Rattle.hh_base.specs.Bytes.{line_feed}
use Rattle.hh_term.specs.declared.program.SignalDecl.{SignalDecl}
use Rattle.hh_term.specs.Kernel.{Kernel}
use Rattle.hh_term.specs.IsProgram.{IsProgram, interface_of}
use Rattle.hh_term.specs.Pairs.{EachPair}
use Rattle.reaction_run.specs.declared.event.Input.{Input}
use Rattle.reaction_run.specs.Reacting as run
use Rattle.reaction_run.specs.Reacting.{InputFits, IsValueFor}
use Rattle.scenario_lines.specs.declared.line.Line.{Line}
use Rattle.scenario_lines.specs.declared.line.Line.TheVariants.{React, Work, Notify, Reset, Settle}
use Rattle.scenario_lines.specs.declared.line.Mode.{Mode}
use Rattle.scenario_lines.specs.Interface.{IsGiven, is_given}
use Rattle.scenario_lines.specs.Scenario.{IsInput, IsLine, Mean, IsScenario, signals_in}
use Rattle.scenario_lines.specs.Lines.{parted, in_front, lines_of, without_returns, carriage_return}
use Rattle.scenario_lines.proofs.Programs.{Locals, stands_first}
use Rattle.scenario_play.specs.Plays.{LineFits}

same_given : (d : Dir) → is_given d ≡ run.is_given d
same_given dir.Input = refl
same_given dir.Both = refl
same_given dir.Output = refl
same_given dir.Local = refl

pub get_first : {A : Type 0} (n k : ℕ) (xs : List A) → k < n → slice_get (take n xs) k ≡ slice_get xs k
get_first zero k xs l = absurd (omega arith)
get_first (suc n) k [] l = refl
get_first (suc n) zero (x ∷ xs) l = refl
get_first (suc n) (suc k) (x ∷ xs) l = get_first n k xs (omega arith)

module _ (signals : List SignalDecl) (n : ℕ) (local : Locals (drop n signals)) where
  given_fits : (name : List ℕ) (d : SignalDecl) (i : Input) → IsGiven signals name i.signal d → kind_of i.value ≡ d.kind
      → InputFits (take n signals) i
  given_fits name d i g same =
      let at = get_first n i.signal signals (stands_first n i.signal signals d local g.at g.given) ∙ g.at in
      subst (λ (o : Option SignalDecl). IsValueFor o i.value) (sym at) (sym (same_given d.dir) ∙ g.given, same)

  input_fits : (part : List ℕ) (i : Input) → IsInput signals part i → InputFits (take n signals) i
  input_fits part i (inl g) = given_fits part g.signal i g.given (ap kind_of g.value ∙ sym g.kind)
  input_fits part i (inr g) = given_fits g.name g.signal i g.given g.kind

  each_fits : (parts : List (List ℕ)) (is : List Input) → AllZip (IsInput signals) parts is
      → AllByRecursion (InputFits (take n signals)) is
  each_fits [] [] h = tt
  each_fits [] (i ∷ is) h = absurd h
  each_fits (p ∷ ps) [] h = absurd h
  each_fits (p ∷ ps) (i ∷ is) h = (input_fits p i h.0, each_fits ps is h.1)

  apart : (s : ℕ) (is : List Input)
      → ((j d : ℕ) → j < length (signals_in is) → s ≢ slice_index_or (signals_in is) j d)
      → AllByRecursion (λ (j : Input). s ≢ j.signal) is
  apart s [] h = tt
  apart s (i ∷ is) h = (h 0 0 (omega arith), apart s is (λ j d within. h (suc j) d (omega arith)))

  all_apart : (is : List Input) → AllPairs (λ s t. s ≢ t) (signals_in is)
      → EachPair (λ (i : Input) (j : Input). i.signal ≢ j.signal) is
  all_apart [] h = tt
  all_apart (i ∷ is) h = (
    apart i.signal is (λ j d within. h 0 (suc j) d (omega arith) (omega arith)),
    all_apart is (λ j k d less within. h (suc j) (suc k) d (omega arith) (omega arith)),
  )

  line_fits : (mode : Mode) (parts : List (List ℕ)) (l : Line) → IsLine mode signals parts l
      → LineFits (take n signals) l
  line_fits mode parts (React inputs) (given, same, are) = (each_fits given inputs are.each, all_apart inputs are.once)
  line_fits mode parts (Work id) h = tt
  line_fits mode parts (Notify a) h = tt
  line_fits mode parts Reset h = tt
  line_fits mode parts Settle h = tt

  all_cons : (l : Line) (ls : List Line) → LineFits (take n signals) l → All (LineFits (take n signals)) ls
      → All (LineFits (take n signals)) (l ∷ ls)
  all_cons l ls h hs = search rules

  pub lines_fit : (mode : Mode) (texts : List (List ℕ)) (ls : List Line) → Mean mode signals texts ls
      → All (LineFits (take n signals)) ls
  lines_fit mode [] ls h = subst (All (LineFits (take n signals))) (sym h) (search rules)
  lines_fit mode (t ∷ ts) ls (inl h) = lines_fit mode ts ls h.1
  lines_fit mode (t ∷ ts) ls (inr (counts, (first, rest, same, is, more))) =
      subst (All (LineFits (take n signals))) (sym same)
      (all_cons first rest (line_fits mode _ first is) (lines_fit mode ts rest more))

lines_mean : (signals : List SignalDecl) (mode : Mode) (texts : List (List ℕ)) (ls : List Line) → Mean mode signals texts ls
    → length ls ≤ length texts
lines_mean signals mode [] ls h = let none = ap length h in omega arith
lines_mean signals mode (t ∷ ts) ls (inl h) = let more = lines_mean signals mode ts ls h.1 in omega arith
lines_mean signals mode (t ∷ ts) ls (inr (counts, (first, rest, same, is, h))) =
    let more = lines_mean signals mode ts rest h in let one = ap length same in omega arith

in_front_long : (b : ℕ) (ls : List (List ℕ)) → length (in_front b ls) ≤ length ls + 1
in_front_long b [] = omega arith
in_front_long b (l ∷ ls) = omega arith

parted_long : (text : List ℕ) → length (parted text) ≤ length text
parted_long [] = omega arith
parted_long (b ∷ bs) =
    let rest = parted_long bs in
    let own = in_front_long b (parted bs) in
    elim (b == line_feed) as (λ t. length (cond t ([] ∷ parted bs) (in_front b (parted bs))) ≤ length (b ∷ bs))
    [ true ↦ (omega arith) | false ↦ (omega arith) ]

returns_long : (text : List ℕ) → length (without_returns text) ≤ length text
returns_long [] = omega arith
returns_long (b ∷ []) = omega arith
returns_long (b ∷ c ∷ bs) =
    let rest = returns_long (c ∷ bs) in
    elim ((b == carriage_return) && (c == line_feed)) as (λ t. length (cond t (without_returns (c ∷ bs)) (b ∷ without_returns (c ∷ bs))) ≤ length (b ∷ c ∷ bs))
    [ true ↦ (omega arith) | false ↦ (omega arith) ]

pub few_lines : (signals : List SignalDecl) (mode : Mode) (text : List ℕ) (ls : List Line)
    → Mean mode signals (lines_of text) ls → length ls ≤ length text
few_lines signals mode text ls h =
    let a = lines_mean signals mode (lines_of text) ls h in
    let b = parted_long (without_returns text) in
    let c = returns_long text in
    omega arith

-- ---- the locals of a program, by its rules

abbrev is_local : Dir → Bool
is_local dir.Local = true
is_local _ = false

local_is : (d : Dir) → is_local d ≡ true → d ≡ dir.Local
local_is dir.Input h = cc
local_is dir.Output h = cc
local_is dir.Both h = cc
local_is dir.Local h = refl

marked : (signals : List SignalDecl) → Locals signals → AllByRecursion (λ (d : SignalDecl). is_local d.dir ≡ true) signals
marked [] h = tt
marked (d ∷ ds) h = (ap is_local h.0, marked ds h.1)

unmarked : (signals : List SignalDecl) → AllByRecursion (λ (d : SignalDecl). is_local d.dir ≡ true) signals → Locals signals
unmarked [] h = tt
unmarked (d ∷ ds) h = (local_is d.dir h.0, unmarked ds h.1)

locals_of : (K : Kernel) → ∥ IsProgram K ∥₁ → Locals (drop K.interface K.signals)
locals_of K rules =
    unmarked (drop K.interface K.signals)
    (∥∥₁_elim rules
    (AllByRecursion-prop (λ (d : SignalDecl). is_local d.dir ≡ true) (λ d. hlevel Bool-set) (drop K.interface K.signals))
    (λ r. marked (drop K.interface K.signals) r.others_local))

pub scenario_fits : (K : Kernel) (mode : Mode) (text : List ℕ) (ls : List Line) → ∥ IsProgram K ∥₁
    → IsScenario mode K.signals text ls → All (LineFits (interface_of K)) ls
scenario_fits K mode text ls rules h = lines_fit K.signals K.interface (locals_of K rules) mode (lines_of text) ls h
