-- Arguments, bindings and the signals of an interface, one more at a time.
use Rattle.std.proofs.Common.{◌≡◌, ℕ, ◌+◌, ◌<◌, ◌||◌, Bool, true, false, not, cond, Option, Some, None, List, []}
use Rattle.std.proofs.Common.{◌∷◌, ◌++◌, length, map, drop, get_or, refl, sym, ◌∙◌, ap, arith, append_assoc, zero, suc}
use Rattle.std.proofs.Common.{length-append, drop-cons, add-one}
use Rattle.std.specs.Prelude.{option_map, slice_get, filter}
use Rattle.std.specs.List.{find}
use Rattle.std.specs.Str.{bytes_eq}
use Rattle.std.proofs.lemmas.List.Elements.{filter-append}
use Rattle.std.proofs.lemmas.Slice.Eq.{bytes_eq-Decides}
use Rattle.hh_base.specs.declared.value.Pos.{Pos}
use Rattle.hh_base.specs.declared.value.Kind.{Kind}
use Rattle.module_tree.specs.declared.source.ExprAt.{ExprAt}
use Rattle.module_tree.specs.declared.source.NameAt.{NameAt}
use Rattle.module_tree.specs.declared.source.Binding.{Binding}
use Rattle.module_tree.specs.declared.source.InterfaceNode.{InterfaceNode}
use Rattle.module_tree.specs.Scopes.{Signal, interface_from, interface_signals}
use Rattle.link_faults.specs.declared.fault.LinkKind.{LinkKind}
use Rattle.link_faults.specs.declared.fault.LinkFault.{LinkFault}
use Rattle.link_faults.specs.declared.table.Table.{Table}
use Rattle.link_faults.specs.Faults.{earlier}
use Rattle.link_faults.specs.Earliest.{first_by}
use Rattle.link_faults.specs.Named.{Name, place_from, place_of, is_named, first_ones, interface_named}
use Rattle.link_faults.specs.SourceKinds.{Kinds}
use Rattle.link_faults.specs.Meanings.{meaning, node_meaning}
use Rattle.link_faults.specs.NameTables.{IsTable, place_in_table, name_of, interface_name}
use Rattle.link_faults.specs.PartFaults.{Meanings}
use Rattle.link_faults.specs.RunFaults.{first_arguments, first_implied, first_unbound, is_unbound, left_name}
use Rattle.link_faults.proofs.EarlierLaws.{earlier_none, earlier_grouped, first_by_joined}

-- ---- arguments

pub arguments_step : (s g : Kinds) (left others : List Kind) (args : List (ExprAt Name)) (i : ℕ)
    (x : ExprAt Name) (whole first found new : Option LinkFault) → i < length args → x ≡ get_or args i x
    → whole ≡ earlier first (first_arguments s g left (drop i args))
    → ((rest : List (ExprAt Name)) → first_arguments s g left (x ∷ rest) ≡ earlier found
    (first_arguments s g others rest)) → new ≡ earlier first found
    → whole ≡ earlier new (first_arguments s g others (drop (i + 1) args))
arguments_step s g left others args i x whole first found new within at before one e =
    let next : drop i args ≡ x ∷ drop (i + 1) args = drop-cons args i x within
    ∙ ap (λ j. get_or args i x ∷ drop j args) (sym (add-one i)) ∙ ap (λ y. y ∷ drop (i + 1) args) (sym at) in
    before ∙ ap (λ xs. earlier first (first_arguments s g left xs)) next
    ∙ ap (earlier first) (one (drop (i + 1) args))
    ∙ sym (earlier_grouped first found (first_arguments s g others (drop (i + 1) args)))
    ∙ ap (λ o. earlier o (first_arguments s g others (drop (i + 1) args))) (sym e)

-- ---- what a name in a table stands for

abbrev pub item_at : {A : Type 0} → List A → Option ℕ → Option A
item_at xs None = None
item_at xs (Some p) = slice_get xs p

pub at_seam : {A : Type 0} (pre : List A) (x : A) (rest : List A)
    → slice_get (pre ++ x ∷ rest) (length pre) ≡ Some x
at_seam [] x rest = refl
at_seam (y ∷ pre) x rest = at_seam pre x rest

pub found_place : {A : Type 0} (name : A → Name) (pre xs : List A) (n : ℕ) (q : Name) → n ≡ length pre
    → item_at (pre ++ xs) (place_from n (map name xs) q) ≡ find (λ (x : A). bytes_eq (name x) q) xs
found_place name pre [] n q e = refl
found_place {A} name pre (x ∷ xs) n q e = by (bytes_eq (name x) q)
    (ap (λ ys. item_at ys (place_from (n + 1) (map name xs) q)) (sym (append_assoc pre (x ∷ []) xs))
    ∙ found_place name (pre ++ x ∷ []) xs (n + 1) q (ap (λ m. m + 1) e ∙ sym (length-append pre (x ∷ []))))
  where
    by : (b : Bool) → item_at (pre ++ x ∷ xs) (place_from (n + 1) (map name xs) q)
        ≡ find (λ (y : A). bytes_eq (name y) q) xs
        → item_at (pre ++ x ∷ xs) (cond b (Some n) (place_from (n + 1) (map name xs) q))
        ≡ cond b (Some x) (find (λ (y : A). bytes_eq (name y) q) xs)
    by true rest = ap (slice_get (pre ++ x ∷ xs)) e ∙ at_seam pre x xs
    by false rest = rest

-- the name of a name of an item
pub names_alike : {A : Type 0} (name : A → Name) (f : A → NameAt Name) → ((x : A) → name_of (f x) ≡ name x)
    → (xs : List A) → map name_of (map f xs) ≡ map name xs
names_alike name f e [] = refl
names_alike name f e (x ∷ xs) = ap (λ n. n ∷ map name_of (map f xs)) (e x)
    ∙ ap (λ ns. name x ∷ ns) (names_alike name f e xs)

abbrev node_name : InterfaceNode → Name
node_name d = d.signal.name

meant_by_node : (n : ℕ) (xs : List InterfaceNode) (q : Name)
    → option_map meaning (find (λ (s : Signal). bytes_eq s.signal.name q) (interface_from n xs))
    ≡ option_map node_meaning (find (λ (d : InterfaceNode). bytes_eq (node_name d) q) xs)
meant_by_node n [] q = refl
meant_by_node n (d ∷ xs) q = by (bytes_eq d.signal.name q) (meant_by_node (n + 1) xs q)
  where
    by : (b : Bool)
        → option_map meaning (find (λ (s : Signal). bytes_eq s.signal.name q) (interface_from (n + 1) xs))
        ≡ option_map node_meaning (find (λ (d : InterfaceNode). bytes_eq (node_name d) q) xs)
        → option_map meaning (cond b (Some (record { place = n; dir = d.dir; signal = d.signal }))
        (find (λ (s : Signal). bytes_eq s.signal.name q) (interface_from (n + 1) xs)))
        ≡ option_map node_meaning (cond b (Some d)
        (find (λ (d : InterfaceNode). bytes_eq (node_name d) q) xs))
    by true rest = refl
    by false rest = rest

pub meant_in_interface : (k : LinkKind) (xs : List InterfaceNode) (t : Table) (q : Name) (p : Option ℕ)
    → IsTable k (map interface_name xs) t → p ≡ place_in_table t q
    → option_map node_meaning (item_at xs p) ≡ option_map meaning (interface_named xs q)
meant_in_interface k xs t q p table at =
    ap (λ o. option_map node_meaning (item_at xs o)) (at ∙ table.found q
    ∙ ap (λ ns. place_of ns q) (names_alike node_name interface_name (λ d. refl) xs))
    ∙ ap (option_map node_meaning) (found_place node_name [] xs 0 q refl) ∙ sym (meant_by_node 0 xs q)

-- ---- the signals of an interface that are not bound

interface_more : (n : ℕ) (xs : List InterfaceNode) (d : InterfaceNode) → interface_from n (xs ++ d ∷ [])
    ≡ interface_from n xs ++ record { place = n + length xs; dir = d.dir; signal = d.signal } ∷ []
interface_more n [] d = ap (λ m. record { place = m; dir = d.dir; signal = d.signal } ∷ []) (omega arith)
interface_more n (x ∷ xs) d =
    ap (λ ss. record { place = n; dir = x.dir; signal = x.signal } ∷ ss) (interface_more (n + 1) xs d
    ∙ ap (λ m. interface_from (n + 1) xs ++ record { place = m; dir = d.dir; signal = d.signal } ∷ [])
    (omega arith))

abbrev signal_name : Signal → Name
signal_name s = s.signal.name

abbrev unless : Bool → Signal → List Signal
unless b s = cond b [] (s ∷ [])

first_ones_more : (before : List Name) (ss : List Signal) (s : Signal) → first_ones before (ss ++ s ∷ [])
    ≡ first_ones before ss ++ unless (is_named before s.signal.name
    || is_named (map signal_name ss) s.signal.name) s
first_ones_more before [] s = by (is_named before s.signal.name)
  where
    by : (b : Bool) → unless b s ≡ unless (b || false) s
    by true = refl
    by false = refl
first_ones_more before (t ∷ ss) s = by (is_named before t.signal.name) refl
    (first_ones_more before ss s) (first_ones_more (t.signal.name ∷ before) ss s)
  where
    rest : Bool
    rest = is_named (map signal_name ss) s.signal.name

    hidden : is_named before t.signal.name ≡ true → (b : Bool) → bytes_eq t.signal.name s.signal.name ≡ b
        → (is_named before s.signal.name || rest) ≡ (is_named before s.signal.name || (b || rest))
    hidden there true e =
        let known : is_named before s.signal.name ≡ true = ap (is_named before)
        (sym ((bytes_eq-Decides t.signal.name s.signal.name).0 e)) ∙ there in
        ap (λ b. b || rest) known ∙ sym (ap (λ b. b || (true || rest)) known)
    hidden there false e = refl

    turned : (a b c : Bool) → ((a || b) || c) ≡ (b || (a || c))
    turned true true c = refl
    turned true false c = refl
    turned false b c = refl

    by : (b : Bool) → is_named before t.signal.name ≡ b
        → first_ones before (ss ++ s ∷ []) ≡ first_ones before ss ++ unless
        (is_named before s.signal.name || rest) s
        → first_ones (t.signal.name ∷ before) (ss ++ s ∷ []) ≡ first_ones (t.signal.name ∷ before) ss
        ++ unless ((bytes_eq t.signal.name s.signal.name || is_named before s.signal.name) || rest) s
        → cond b (first_ones before (ss ++ s ∷ [])) (t ∷ first_ones (t.signal.name ∷ before) (ss ++ s ∷ []))
        ≡ cond b (first_ones before ss) (t ∷ first_ones (t.signal.name ∷ before) ss)
        ++ unless (is_named before s.signal.name
        || (bytes_eq t.signal.name s.signal.name || rest)) s
    by true e here there = here ∙ ap (λ b. first_ones before ss ++ unless b s)
        (hidden e (bytes_eq t.signal.name s.signal.name) refl)
    by false e here there = ap (λ xs. t ∷ xs) there
        ∙ ap (λ b. t ∷ (first_ones (t.signal.name ∷ before) ss ++ unless b s))
        (turned (bytes_eq t.signal.name s.signal.name) (is_named before s.signal.name) rest)

named_in_interface : (n : ℕ) (xs : List InterfaceNode) → map signal_name (interface_from n xs)
    ≡ map name_of (map interface_name xs)
named_in_interface n [] = refl
named_in_interface n (d ∷ xs) = ap (λ ns. d.signal.name ∷ ns) (named_in_interface (n + 1) xs)

pub unbound_more : (meant : Meanings) (p : Pos) (bindings : List (Binding Name)) (xs : List InterfaceNode)
    (d : InterfaceNode) → first_unbound meant p bindings (xs ++ d ∷ [])
    ≡ earlier (first_unbound meant p bindings xs)
    (cond (is_named (map name_of (map interface_name xs)) d.signal.name
    || is_named (map name_of (map left_name bindings)) d.signal.name) None
    (first_implied p (node_meaning d) (meant d.signal.name)))
unbound_more meant p bindings xs d =
    ap (λ ss. first_by f (filter (is_unbound bindings) (first_ones [] ss))) (interface_more 0 xs d)
    ∙ ap (λ ss. first_by f (filter (is_unbound bindings) ss)) (first_ones_more [] (interface_signals xs) s)
    ∙ ap (first_by f) (filter-append (is_unbound bindings) (first_ones [] (interface_signals xs))
    (unless (is_named (map signal_name (interface_signals xs)) d.signal.name) s))
    ∙ first_by_joined f (filter (is_unbound bindings) (first_ones [] (interface_signals xs)))
    (filter (is_unbound bindings) (unless (is_named (map signal_name (interface_signals xs)) d.signal.name) s))
    ∙ ap (earlier (first_unbound meant p bindings xs))
    (ap (λ ns. first_by f (filter (is_unbound bindings) (unless (is_named ns d.signal.name) s)))
    (named_in_interface 0 xs)
    ∙ by (is_named (map name_of (map interface_name xs)) d.signal.name)
    (is_named (map (λ (b : Binding Name). b.left.name) bindings) d.signal.name) refl
    ∙ ap (λ ns. cond (is_named (map name_of (map interface_name xs)) d.signal.name
    || is_named ns d.signal.name) None (f s))
    (sym (names_alike (λ (b : Binding Name). b.left.name) left_name (λ b. refl) bindings)))
  where
    f : Signal → Option LinkFault
    f s = first_implied p (meaning s) (meant s.signal.name)

    s : Signal
    s = record { place = 0 + length xs; dir = d.dir; signal = d.signal }

    kept : (b : Bool) → first_by f (cond (not b) (s ∷ []) []) ≡ cond b None (f s)
    kept true = refl
    kept false = earlier_none (f s)

    by : (a b : Bool) → is_unbound bindings s ≡ not b
        → first_by f (filter (is_unbound bindings) (unless a s)) ≡ cond (a || b) None (f s)
    by true b e = refl
    by false b e = ap (λ t. first_by f (cond t (s ∷ []) [])) e ∙ kept b

pub item_mapped : {A B : Type 0} (f : A → B) (xs : List A) (p : Option ℕ)
    → option_map f (item_at xs p) ≡ item_at (map f xs) p
item_mapped {A} {B} f xs None = refl
item_mapped {A} {B} f xs (Some p) = by xs p
  where
    by : (ys : List A) (n : ℕ) → option_map f (slice_get ys n) ≡ slice_get (map f ys) n
    by [] n = refl
    by (y ∷ ys) zero = refl
    by (y ∷ ys) (suc n) = by ys n
