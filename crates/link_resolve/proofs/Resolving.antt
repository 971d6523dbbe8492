-- Walks over pieces of a text that are put together.
use Rattle.std.proofs.Common.{◌≡◌, ℕ, ◌+◌, suc, List, [], ◌∷◌, ◌++◌, map, length, drop, take, get_or, ◌<◌, ◌≤◌, refl, sym}
use Rattle.std.proofs.Common.{ap, subst, ◌∙◌, Some, None, Option, option_map, Result, Ok, Err}
use Rattle.std.specs.Prelude.{IfOk}
use Rattle.std.proofs.lemmas.List.{map-append, take_all, take_more}
use Rattle.module_tree.specs.declared.source.SignalNode.{SignalNode}
use Rattle.module_tree.specs.declared.source.BlockNode.{BlockNode, roll-BlockNode, out-BlockNode}
use Rattle.module_tree.specs.declared.source.StatementNode.{StatementNode, roll-StatementNode, out-StatementNode}
use Rattle.module_tree.specs.declared.source.Statement.{Statement, roll-Statement}
use Rattle.module_tree.specs.declared.source.Statement.TheOpen as s
use Rattle.module_tree.specs.declared.source.Statement.TheVariants as variant
use Rattle.module_tree.specs.declared.source.ExprAt.{ExprAt}
use Rattle.module_tree.specs.declared.source.Statement.TheFolds.{fold-roll-Statement, map-Statement}
use Rattle.module_tree.specs.declared.source.Statement.TheFolds.{fold_out-StatementNode, fold_out-BlockNode}
use Rattle.module_tree.specs.Scopes.{InScope, Declared, local_signals, with_signals, with_trap}
use Rattle.indexmap.specs.IndexMap.{get_by_text}
use Rattle.link_faults.specs.Named.{Name}
use Rattle.link_faults.specs.Rows.{Program}
use Rattle.link_faults.specs.InnermostFirst.{in_scope, shown, declares}
use Rattle.module_link.specs.declared.places.Places.{Places}
use Rattle.module_link.specs.Resolved as tree
use Rattle.module_link.specs.Resolved.{Resolve, plainly, within, then, each, if_there, resolved, resolved_block}
use Rattle.module_link.specs.Places.{ArePlaces, Shows, declared_before}
use Rattle.link_resolve.specs.Walking.{Resolves, resolved_statement, resolved_node, behind_signals, inside_trap}
use Rattle.link_resolve.specs.Walking.{SameButSignals, SameButTraps}

pub plainly_resolves : {A : Type 0} (p : Places) (tree : InScope → A) (made : A) → ArePlaces p
    → ((c : InScope) → Shows p c → made ≡ tree c) → Resolves (plainly tree) p p made
plainly_resolves p tree made ok f = record {
  are_places = ok;
  tree = f;
  after = λ c h. refl;
  shows = λ c h. h;
}

-- the answer of a call that leaves the tables as they are
pub plain_result : {A E : Type 0} (r : Result A E) (p : Places) (tree : InScope → A) → ArePlaces p
    → ((c : InScope) → Shows p c → IfOk r (λ s. s ≡ tree c)) → IfOk r (λ s. Resolves (plainly tree) p p s)
plain_result (Ok s) p tree ok f = plainly_resolves p tree s ok f
plain_result (Err e) p tree ok f = tt

pub within_resolves : {A B : Type 0} (make : InScope → A → B) (r : Resolve A) (old new : Places) (a : A)
    (b : B) → Resolves r old new a → ((c : InScope) → Shows old c → b ≡ make c a)
    → Resolves (within make r) old new b
within_resolves make r old new a b x f = record {
  are_places = x.are_places;
  tree = λ c h. f c h ∙ ap (make c) (x.tree c h);
  after = x.after;
  shows = x.shows;
}

pub then_resolves : {A B C : Type 0} (make : InScope → A → B → C) (r : Resolve A) (q : Resolve B)
    (old middle new : Places) (a : A) (b : B) (made : C) → Resolves r old middle a → Resolves q middle new b
    → ((c : InScope) → Shows old c → made ≡ make c a b) → Resolves (then make r q) old new made
then_resolves make r q old middle new a b made x y f = record {
  are_places = y.are_places;
  tree = λ c h.
      let second : b ≡ (q c (r c (declared_before old)).after).tree = y.tree c (x.shows c h)
      ∙ ap (λ (d : Declared). (q c d).tree) (x.after c h) in
      f c h ∙ (λ i. make c (x.tree c h i) (second i));
  after = λ c h. y.after c (x.shows c h) ∙ ap (λ (d : Declared). (q c d).after) (x.after c h);
  shows = λ c h. y.shows c (x.shows c h);
}

-- ---- lists of pieces

each_more : {A : Type 0} (rs : List (Resolve A)) (r : Resolve A) (c : InScope) (b : Declared)
    → ((each (rs ++ r ∷ []) c b).tree ≡ (each rs c b).tree ++ (r c (each rs c b).after).tree ∷ [])
    × ((each (rs ++ r ∷ []) c b).after ≡ (r c (each rs c b).after).after)
each_more [] r c b = (refl, refl)
each_more (x ∷ rs) r c b =
    let q = each_more rs r c (x c b).after in
    (ap (λ ts. (x c b).tree ∷ ts) q.0, q.1)

pub each_resolves : {A : Type 0} (rs : List (Resolve A)) (r : Resolve A) (old middle new : Places)
    (trees : List A) (a : A) (made : List A) → Resolves (each rs) old middle trees → Resolves r middle new a
    → made ≡ trees ++ a ∷ [] → Resolves (each (rs ++ r ∷ [])) old new made
each_resolves rs r old middle new trees a made x y e = record {
  are_places = y.are_places;
  tree = λ c h.
      let before = declared_before old in
      let last : a ≡ (r c (each rs c before).after).tree = y.tree c (x.shows c h)
      ∙ ap (λ (d : Declared). (r c d).tree) (x.after c h) in
      e ∙ (λ i. x.tree c h i ++ last i ∷ []) ∙ sym (each_more rs r c before).0;
  after = λ c h.
      y.after c (x.shows c h) ∙ ap (λ (d : Declared). (r c d).after) (x.after c h)
      ∙ sym (each_more rs r c (declared_before old)).1;
  shows = λ c h. y.shows c (x.shows c h);
}

-- one element of a list more
pub more_resolves : {S A : Type 0} (f : S → Resolve A) (xs : List S) (i : ℕ) (x : S) (old middle new : Places)
    (trees : List A) (a : A) (made : List A) → i < length xs → x ≡ get_or xs i x
    → Resolves (each (map f (take i xs))) old middle trees → Resolves (f x) middle new a → made ≡ trees ++ a ∷ []
    → Resolves (each (map f (take (i + 1) xs))) old new made
more_resolves {S} {A} f xs i x old middle new trees a made lt is before one e =
    let more : map f (take (i + 1) xs) ≡ map f (take i xs) ++ f x ∷ [] = ap (map f) (take_more xs i x lt
    ∙ ap (λ (y : S). take i xs ++ y ∷ []) (sym is)) ∙ map-append f (take i xs) (x ∷ []) in
    subst (λ (rs : List (Resolve A)). Resolves (each rs) old new made) (sym more)
    (each_resolves (map f (take i xs)) (f x) old middle new trees a made before one e)

-- ---- a statement of one layer

abbrev pub Layer : Type 0
Layer = s.Statement-F Name (Statement Name) (BlockNode Name) (StatementNode Name)

abbrev pub resolves_in : Program → Layer → s.Statement-F Name (Resolve (Statement ℕ))
    (Resolve (BlockNode ℕ)) (Resolve (StatementNode ℕ))
resolves_in parts = map-Statement Name (Statement Name) (BlockNode Name) (StatementNode Name)
    (Resolve (Statement ℕ)) (Resolve (BlockNode ℕ)) (Resolve (StatementNode ℕ)) (resolved_statement parts)
    (resolved_block parts) (resolved_node parts)

pub step : (parts : Program) (y : Layer) (x : Statement Name) → roll-Statement Name y ≡ x
    → resolved_statement parts x ≡ tree.statement_step parts (resolves_in parts y)
step parts y x e =
    ap (resolved_statement parts) (sym e)
    ∙ fold-roll-Statement Name (Resolve (Statement ℕ)) (Resolve (BlockNode ℕ)) (Resolve (StatementNode ℕ))
    (tree.statement_step parts) tree.block_step tree.node_step y

pub if_step : (parts : Program) (x : ExprAt Name) (b : BlockNode Name) (o : Option (BlockNode Name))
    → then (λ c. variant.If (resolved c x)) (resolved_block parts b)
    (if_there (option_map (resolved_block parts) o)) ≡ tree.statement_step parts (resolves_in parts (s.If x b o))
if_step parts x b None = refl
if_step parts x b (Some o) = refl

-- the promise of a statement of this layer
pub by_step : {E : Type 0} (parts : Program) (y : Layer) (x : Statement Name) (r : Result (Statement ℕ) E)
    (old new : Places) → roll-Statement Name y ≡ x
    → IfOk r (λ s. Resolves (tree.statement_step parts (resolves_in parts y)) old new s)
    → IfOk r (λ s. Resolves (resolved_statement parts x) old new s)
by_step parts y x r old new e = subst (λ (q : Resolve (Statement ℕ)). IfOk r (λ s. Resolves q old new s))
    (sym (step parts y x e))

pub made_by_step : (parts : Program) (y : Layer) (x : Statement Name) (old new : Places) (made : Statement ℕ)
    → roll-Statement Name y ≡ x → Resolves (tree.statement_step parts (resolves_in parts y)) old new made
    → Resolves (resolved_statement parts x) old new made
made_by_step parts y x old new made e = subst (λ (q : Resolve (Statement ℕ)). Resolves q old new made)
    (sym (step parts y x e))

-- and of one that leaves the tables as they are
pub by_plain_step : {E : Type 0} (parts : Program) (y : Layer) (x : Statement Name)
    (r : Result (Statement ℕ) E) (p : Places) (made : InScope → Statement ℕ) → roll-Statement Name y ≡ x
    → tree.statement_step parts (resolves_in parts y) ≡ plainly made → ArePlaces p
    → ((c : InScope) → Shows p c → IfOk r (λ s. s ≡ made c))
    → IfOk r (λ s. Resolves (resolved_statement parts x) p p s)
by_plain_step parts y x r p made e plain ok f = by_step parts y x r p p e
    (subst (λ (q : Resolve (Statement ℕ)). IfOk r (λ s. Resolves q p p s)) (sym plain)
    (plain_result r p made ok f))

-- ---- what may be missing, and nodes

pub nothing_resolves : (parts : Program) (o : Option (BlockNode Name)) (p : Places) → ArePlaces p → o ≡ None
    → Resolves (if_there (option_map (resolved_block parts) o)) p p None
nothing_resolves parts o p ok e =
    subst (λ (q : Option (BlockNode Name)). Resolves (if_there (option_map (resolved_block parts) q)) p p None)
    (sym e) (plainly_resolves p (λ c. None) None ok (λ c h. refl))

pub some_resolves : (parts : Program) (o : Option (BlockNode Name)) (b : BlockNode Name) (old new : Places)
    (made : BlockNode ℕ) → Resolves (resolved_block parts b) old new made → o ≡ Some b
    → Resolves (if_there (option_map (resolved_block parts) o)) old new (Some made)
some_resolves parts o b old new made x e =
    subst (λ (q : Option (BlockNode Name)). Resolves (if_there (option_map (resolved_block parts) q)) old new
    (Some made)) (sym e)
    (within_resolves (λ c t. Some t) (resolved_block parts b) old new made (Some made) x (λ c h. refl))

pub node_resolves : (parts : Program) (n : StatementNode Name) (old new : Places) (what : Statement ℕ)
    → Resolves (resolved_statement parts (out-StatementNode Name n).what) old new what
    → Resolves (resolved_node parts n) old new (roll-StatementNode ℕ (record {
      pos = (out-StatementNode Name n).pos;
      what = what;
    }))
node_resolves parts n old new what x =
    let p = (out-StatementNode Name n).pos in
    let made = roll-StatementNode ℕ (record { pos = p; what = what }) in
    let same = fold_out-StatementNode Name (Resolve (Statement ℕ)) (Resolve (BlockNode ℕ))
    (Resolve (StatementNode ℕ)) (tree.statement_step parts) tree.block_step tree.node_step n in
    subst (λ (q : Resolve (StatementNode ℕ)). Resolves q old new made) (sym same)
    (within_resolves (λ c w. roll-StatementNode ℕ (record { pos = p; what = w }))
    (resolved_statement parts (out-StatementNode Name n).what) old new what made x (λ c h. refl))

pub block_resolves : (parts : Program) (b : BlockNode Name) (nodes : List (StatementNode Name))
    (old new : Places) (trees : List (StatementNode ℕ)) → nodes ≡ (out-BlockNode Name b).statements
    → Resolves (each (map (resolved_node parts) nodes)) old new trees
    → Resolves (resolved_block parts b) old new (roll-BlockNode ℕ (record {
      pos = (out-BlockNode Name b).pos;
      statements = trees;
    }))
block_resolves parts b nodes old new trees e x =
    let p = (out-BlockNode Name b).pos in
    let made = roll-BlockNode ℕ (record { pos = p; statements = trees }) in
    let same = fold_out-BlockNode Name (Resolve (Statement ℕ)) (Resolve (BlockNode ℕ))
    (Resolve (StatementNode ℕ)) (tree.statement_step parts) tree.block_step tree.node_step b in
    subst (λ (q : Resolve (BlockNode ℕ)). Resolves q old new made) (sym same)
    (within_resolves (λ c ts. roll-BlockNode ℕ (record { pos = p; statements = ts }))
    (each (map (resolved_node parts) (out-BlockNode Name b).statements)) old new trees made
    (subst (λ (ns : List (StatementNode Name)). Resolves (each (map (resolved_node parts) ns)) old new trees)
    e x) (λ c h. refl))

-- all elements of a list
pub all_resolve : {S A : Type 0} (f : S → Resolve A) (xs : List S) (i : ℕ) (old new : Places)
    (trees made : List A) → length xs ≤ i → made ≡ trees → Resolves (each (map f (take i xs))) old new trees
    → Resolves (each (map f xs)) old new made
all_resolve f xs i old new trees made all same x =
    subst (λ ts. Resolves (each (map f xs)) old new ts) (sym same)
    (subst (λ ys. Resolves (each (map f ys)) old new trees) (take_all i xs all) x)

-- ---- scopes that are entered and left

locals_length : (n : ℕ) (ss : List SignalNode) → length (local_signals n ss) ≡ length ss
locals_length n [] = refl
locals_length n (s ∷ ss) = ap suc (locals_length (n + 1) ss)

dropped : {A B : Type 0} (f : A → B) (xs ys : List A) → drop (length xs) (map f (xs ++ ys)) ≡ map f ys
dropped f [] ys = refl
dropped f (x ∷ xs) ys = dropped f xs ys

pub signals_resolve : (signals : List SignalNode) (block : Resolve (BlockNode ℕ))
    (old entered left new : Places) (b : BlockNode ℕ) → ArePlaces new → SameButSignals old entered
    → entered.next_signal ≡ old.next_signal + length signals
    → in_scope entered.signals ≡ map shown (local_signals old.next_signal signals) ++ in_scope old.signals
    → Resolves block entered left b → SameButSignals left new → new.next_signal ≡ left.next_signal
    → in_scope new.signals ≡ drop (length signals) (in_scope left.signals)
    → Resolves (behind_signals signals block) old new b
signals_resolve signals block old entered left new b ok same next inner x same' next' outer =
    let locals = local_signals old.next_signal signals in
    let before : declared_before entered ≡ record {
      signals = old.next_signal + length signals;
      traps = old.next_trap;
    } = λ i. record { signals = next i; traps = same.next_trap i } in
    let inside : (c : InScope) → Shows old c → Shows entered (with_signals old.next_signal signals c) =
    λ c h. record {
      signals = inner ∙ ap (λ ns. map shown locals ++ ns) h.signals ∙ sym (map-append shown locals c.signals);
      traps = ap in_scope same.traps ∙ h.traps;
      parameters = λ n. ap (λ t. get_by_text t n) same.parameters ∙ h.parameters n;
    } in
    record {
      are_places = ok;
      tree = λ c h. x.tree (with_signals old.next_signal signals c) (inside c h)
          ∙ ap (λ (d : Declared). (block (with_signals old.next_signal signals c) d).tree) before;
      after = λ c h.
          (λ i. record { signals = next' i; traps = same'.next_trap i })
          ∙ x.after (with_signals old.next_signal signals c) (inside c h)
          ∙ ap (λ (d : Declared). (block (with_signals old.next_signal signals c) d).after) before;
      shows = λ c h.
          let q = x.shows (with_signals old.next_signal signals c) (inside c h) in
          record {
            signals = outer ∙ ap (drop (length signals)) q.signals
                ∙ ap (λ n. drop n (map shown (locals ++ c.signals)))
                (sym (locals_length old.next_signal signals)) ∙ dropped shown locals c.signals;
            traps = ap in_scope same'.traps ∙ q.traps;
            parameters = λ n. ap (λ t. get_by_text t n) same'.parameters ∙ q.parameters n;
          };
    }

pub trap_resolves : (name : Name) (block : Resolve (BlockNode ℕ)) (old entered left new : Places)
    (b : BlockNode ℕ) → ArePlaces new → SameButTraps old entered → entered.next_trap ≡ old.next_trap + 1
    → in_scope entered.traps ≡ declares name old.next_trap ∷ in_scope old.traps
    → Resolves block entered left b → SameButTraps left new → new.next_trap ≡ left.next_trap
    → in_scope new.traps ≡ drop 1 (in_scope left.traps) → Resolves (inside_trap name block) old new b
trap_resolves name block old entered left new b ok same next inner x same' next' outer =
    let before : declared_before entered ≡ record {
      signals = old.next_signal;
      traps = old.next_trap + 1;
    } = λ i. record { signals = same.next_signal i; traps = next i } in
    let inside : (c : InScope) → Shows old c → Shows entered (with_trap old.next_trap name c) =
    λ c h. record {
      signals = ap in_scope same.signals ∙ h.signals;
      traps = inner ∙ ap (λ ns. declares name old.next_trap ∷ ns) h.traps;
      parameters = λ n. ap (λ t. get_by_text t n) same.parameters ∙ h.parameters n;
    } in
    record {
      are_places = ok;
      tree = λ c h. x.tree (with_trap old.next_trap name c) (inside c h)
          ∙ ap (λ (d : Declared). (block (with_trap old.next_trap name c) d).tree) before;
      after = λ c h.
          (λ i. record { signals = same'.next_signal i; traps = next' i })
          ∙ x.after (with_trap old.next_trap name c) (inside c h)
          ∙ ap (λ (d : Declared). (block (with_trap old.next_trap name c) d).after) before;
      shows = λ c h.
          let q = x.shows (with_trap old.next_trap name c) (inside c h) in
          record {
            signals = ap in_scope same'.signals ∙ q.signals;
            traps = outer ∙ ap (drop 1) q.traps;
            parameters = λ n. ap (λ t. get_by_text t n) same'.parameters ∙ q.parameters n;
          };
    }
