-- An input is refused for one cause.
use Rattle.std.proofs.Common.{◌≡◌, ℕ, ◌<◌, ◌≤◌, true, false, Some, List, [], ◌∷◌, ◌++◌, length, take, slice_get}
use Rattle.std.proofs.Common.{sym, ◌∙◌, ap, subst, arith, ◌⊎◌, ⊎_elim}
use Rattle.std.proofs.lemmas.Bool.{cases_lt}
use Rattle.hh_base.specs.declared.value.Pos.{Pos}
use Rattle.hh_term.specs.declared.program.Program.{Program}
use Rattle.hh_term.specs.declared.program.BodyDecl.{BodyDecl}
use Rattle.hh_term.specs.declared.program.SignalDecl.{SignalDecl}
use Rattle.hh_term.specs.Kernel.{Kernel, Body}
use Rattle.hh_term.specs.ProgramView.{kernel_of}
use Rattle.host_hooks.specs.Promise.{Promise}
use Rattle.host_hooks.specs.Allowed.{IsCovered, IsFirstUncovered}
use Rattle.scenario_lines.specs.declared.line.Line.{Line}
use Rattle.scenario_lines.specs.declared.line.Mode.{Mode}
use Rattle.scenario_lines.specs.declared.line.Mode.TheVariants.{Play}
use Rattle.scenario_lines.specs.Lines.{is_skipped, parts_of}
use Rattle.scenario_lines.specs.Scenario.{IsFirstRefused, IsLine, IsRefused, Mean}
use Rattle.scenario_lines.proofs.Meaning.{mean_split}
use Rattle.module_compile.proofs.CompileLaws.{one_kernel, refused_is_none}
use Rattle.module_compile.proofs.RefusalLaws.{one_refusal}
use Rattle.hiphop_main.specs.declared.ending.Cause.{Cause}
use Rattle.hiphop_main.specs.declared.ending.Cause.TheVariants as cause
use Rattle.hiphop_main.specs.Split.{module_text, scenario_text}
use Rattle.hiphop_main.specs.Play.{IsBad, of_module, of_hooks, of_scenario, LacksHook, HasBadLine, bodies_of}
use Rattle.hiphop_main.proofs.LinesFit.{get_first}
use Rattle.hiphop_main.proofs.Covering.{at_place, at_same, covered_all, program_bodies, same_covered}

-- what is not before another, either way, is it
neither_less : (m n : ℕ) → (m < n → ⊥) → (n < m → ⊥) → m ≡ n
neither_less m n mn nm =
    ⊎_elim (λ (less : m < n). absurd (mn less))
    (λ (le : n ≤ m). ⊎_elim (λ (less : n < m). absurd (nm less)) (λ (ge : m ≤ n). omega arith) (cases_lt n m)) (cases_lt m n)

-- ---- bodies

-- a body that lacks a hook stands before no other that is the first of its program
none_before : (hooks : List Promise) (p q : Program) → kernel_of p ≡ kernel_of q → (k l : ℕ)
    → IsFirstUncovered hooks (bodies_of p) k → IsFirstUncovered hooks (bodies_of q) l → k < l → ⊥
none_before hooks p q same k l a b less =
    let own = at_same (bodies_of q) (bodies_of p) k a.body (program_bodies q p (sym same)) a.at in
    a.uncovered (same_covered hooks own.0 a.body own.2
    (at_place (IsCovered hooks) (take l (bodies_of q)) k own.0 b.before (get_first l k (bodies_of q) less ∙ own.1)))

same_some : {A : Type 0} {x y : A} → Some x ≡ Some y → x ≡ y
same_some h = cc

one_hook : (hooks : List Promise) (input : List ℕ) (x y : Pos) → LacksHook hooks input x → LacksHook hooks input y → x ≡ y
one_hook hooks input x y a b =
    let same = one_kernel (module_text input) a.program b.program a.compiled b.compiled in
    let place : a.bare.place ≡ b.bare.place =
    neither_less a.bare.place b.bare.place
    (none_before hooks a.program b.program same a.bare.place b.bare.place a.bare.first b.bare.first)
    (none_before hooks b.program a.program (sym same) b.bare.place a.bare.place b.bare.first a.bare.first) in
    let own = at_same (bodies_of b.program) (bodies_of a.program) a.bare.place a.bare.first.body
    (program_bodies b.program a.program (sym same)) a.bare.first.at in
    let there : own.0 ≡ b.bare.first.body =
    same_some (sym own.1 ∙ ap (slice_get (bodies_of b.program)) place ∙ b.bare.first.at) in
    sym a.bare.position ∙ sym (ap (λ (d : Body). d.pos) own.2) ∙ ap (λ (d : BodyDecl). d.pos) there ∙ b.bare.position

-- where a body lacks a hook, not all have one
hook_or_line : (hooks : List Promise) (input : List ℕ) (x : Pos) (n : ℕ) → LacksHook hooks input x
    → HasBadLine hooks input n → ⊥
hook_or_line hooks input x n a b =
    let same = one_kernel (module_text input) b.program a.program b.compiled a.compiled in
    a.bare.first.uncovered
    (covered_all hooks b.program a.program same b.covered a.bare.place a.bare.first.body a.bare.first.at)

-- ---- lines

not_both : (parts : List (List ℕ)) → is_skipped parts ≡ true → is_skipped parts ≡ false → ⊥
not_both parts skips counts = let e : true ≡ false = sym skips ∙ counts in absurd cc

-- of two ways to part a list, the one that parts it later has more in front
longer : (xs ys us vs : List (List ℕ)) (y : List ℕ) → xs ++ y ∷ ys ≡ us ++ vs → length xs < length us
    → (more : List (List ℕ)) × (us ≡ xs ++ y ∷ more)
longer [] ys [] vs y e less = absurd (omega arith)
longer [] ys (u ∷ us) vs y e less = (us, let h : u ≡ y = cc in ap (λ (t : List ℕ). t ∷ us) h)
longer (x ∷ xs) ys [] vs y e less = absurd (omega arith)
longer (x ∷ xs) ys (u ∷ us) vs y e less =
    let first : u ≡ x = cc in
    let rest : xs ++ y ∷ ys ≡ us ++ vs = cc in
    let behind = longer xs ys us vs y rest (omega arith) in
    (behind.0, ap (λ (t : List ℕ). t ∷ us) first ∙ ap (λ (t : List (List ℕ)). x ∷ t) behind.1)

-- a refused line means nothing
means_nothing : (mode : Mode) (signals : List SignalDecl) (line : List ℕ) (behind : List (List ℕ)) (ls : List Line)
    → IsRefused mode signals line → Mean mode signals (line ∷ behind) ls → ⊥
means_nothing mode signals line behind ls refused m =
    ⊎_elim
    (λ (skipped : (is_skipped (parts_of line) ≡ true) × Mean mode signals behind ls).
    not_both (parts_of line) skipped.0 refused.counts)
    (λ (read : (is_skipped (parts_of line) ≡ false) × ((first : Line) × (rest : List Line) × (ls ≡ first ∷ rest)
    × IsLine mode signals (parts_of line) first × Mean mode signals behind rest)).
    refused.formless read.1.0 read.1.3)
    m

no_line_before : (mode : Mode) (signals : List SignalDecl) (text : List ℕ) (n m : ℕ)
    → IsFirstRefused mode signals text n → IsFirstRefused mode signals text m → n < m → ⊥
no_line_before mode signals text n m a b less =
    let front : length a.before < length b.before = (let x = a.counted in let y = b.counted in omega arith) in
    let more = longer a.before a.behind b.before (b.line ∷ b.behind) a.line (sym a.lines ∙ b.lines) front in
    let means = b.read in
    let parted = mean_split mode signals a.before (a.line ∷ more.0) means.0
    (subst (λ (t : List (List ℕ)). Mean mode signals t means.0) more.1 means.1) in
    means_nothing mode signals a.line more.0 parted.1 a.refused parted.4

one_line : (hooks : List Promise) (input : List ℕ) (n m : ℕ) → HasBadLine hooks input n → HasBadLine hooks input m → n ≡ m
one_line hooks input n m a b =
    let same = one_kernel (module_text input) b.program a.program b.compiled a.compiled in
    let again : IsFirstRefused Play (kernel_of a.program).signals (scenario_text input) m =
    subst (λ (K : Kernel). IsFirstRefused Play K.signals (scenario_text input) m) same b.line in
    neither_less n m (no_line_before Play (kernel_of a.program).signals (scenario_text input) n m a.line again)
    (no_line_before Play (kernel_of a.program).signals (scenario_text input) m n again a.line)

-- ---- all causes

pub one_cause : (hooks : List Promise) (input : List ℕ) (c d : Cause) → IsBad hooks input c → IsBad hooks input d → d ≡ c
one_cause hooks input _ _ (of_module {f} a) (of_module {f = g} b) =
    ap cause.Module (one_refusal (module_text input) g f b a)
one_cause hooks input _ _ (of_module {f} a) (of_hooks {at} b) =
    absurd (refused_is_none (module_text input) f b.program a b.compiled)
one_cause hooks input _ _ (of_module {f} a) (of_scenario {n} b) =
    absurd (refused_is_none (module_text input) f b.program a b.compiled)
one_cause hooks input _ _ (of_hooks {at} a) (of_module {f} b) =
    absurd (refused_is_none (module_text input) f a.program b a.compiled)
one_cause hooks input _ _ (of_hooks {at = x} a) (of_hooks {at = y} b) = ap cause.NoHook (one_hook hooks input y x b a)
one_cause hooks input _ _ (of_hooks {at} a) (of_scenario {n} b) = absurd (hook_or_line hooks input at n a b)
one_cause hooks input _ _ (of_scenario {n} a) (of_module {f} b) =
    absurd (refused_is_none (module_text input) f a.program b a.compiled)
one_cause hooks input _ _ (of_scenario {n} a) (of_hooks {at} b) = absurd (hook_or_line hooks input at n b a)
one_cause hooks input _ _ (of_scenario {n} a) (of_scenario {n = m} b) = ap cause.Scenario (one_line hooks input m n b a)
