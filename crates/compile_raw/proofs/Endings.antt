-- Line endings, one after another.
use Rattle.std.proofs.Common.{◌≡◌, ℕ, Bool, true, false, List, [], ◌∷◌, ◌++◌, Some, if◌then◌else◌, map, refl, sym, ap, ◌∙◌}
use Rattle.compile_raw.proofs.Prelude.{add_add, add_nil, append-nil, children, CompileOptions, cond-false, cond-true, Cons, ending_bytes, endings_bytes}
use Rattle.compile_raw.proofs.Prelude.{endings_in, fold, in_bytes, lay, LayoutState, LineEnding, Names, Nil, node_name, Nodes, same_name, text_of, with_bytes}
use Rattle.engine_events.specs.declared.event.Name.TheVariants as n
use Rattle.definition_page.specs.GfmTable.{endings_pieces}
use Rattle.event_grammar.specs.Trees as tree
use Rattle.event_meaning.specs.Raw.{ending_of}
use Rattle.html_bytes.proofs.SameBlocks.{end_said}

-- endings are printed as their bytes
pub endings_laid : (options : CompileOptions) (default : List ℕ) (endings : List LineEnding) (l : LayoutState)
    → fold (lay options default) l (in_bytes (endings_pieces endings)) ≡ with_bytes (endings_bytes endings) l
endings_laid options default [] l = sym (add_nil l)
endings_laid options default (e ∷ es) l =
    ap (λ (x : List ℕ). fold (lay options default) (with_bytes x l) (in_bytes (endings_pieces es))) (end_said (Some e))
    ∙ endings_laid options default es (with_bytes (ending_bytes e) l)
    ∙ add_add l (ending_bytes e) (endings_bytes es)

module _ (names : Names) (bytes : List ℕ) where
  first_by : (b : Bool) (node : tree.Node) (ns : List tree.Node)
      → let ends : List tree.Node → List ℕ = λ x. endings_bytes (map (λ (y : tree.Node). ending_of (text_of bytes y)) x) in
      ends (if b then node ∷ ns else ns) ≡ ends (if b then node ∷ [] else []) ++ ends ns
  first_by true node ns =
      let first = ending_bytes (ending_of (text_of bytes node)) in
      ap (λ (x : List ℕ). x ++ endings_bytes (map (λ (y : tree.Node). ending_of (text_of bytes y)) ns)) (sym (append-nil first))
  first_by false node ns = refl

  -- those of the first node, and those after it
  pub first_endings : (node : tree.Node) (ns : Nodes)
      → endings_bytes (endings_in names bytes (Cons node ns))
      ≡ endings_bytes (endings_in names bytes (Cons node Nil)) ++ endings_bytes (endings_in names bytes ns)
  first_endings node ns = first_by (same_name (node_name node) n.LineEnding) node (children n.LineEnding ns)

  -- a node that is an ending, or isn't
  pub is_ending : (node : tree.Node) → same_name (node_name node) n.LineEnding ≡ true
      → endings_bytes (endings_in names bytes (Cons node Nil)) ≡ ending_bytes (ending_of (text_of bytes node))
  is_ending node h =
      ap (λ x. endings_bytes (map (λ (y : tree.Node). ending_of (text_of bytes y)) x))
      (cond-true (same_name (node_name node) n.LineEnding) (node ∷ []) [] h)
      ∙ append-nil (ending_bytes (ending_of (text_of bytes node)))

  pub no_ending : (node : tree.Node) → same_name (node_name node) n.LineEnding ≡ false → endings_bytes (endings_in names bytes (Cons node Nil)) ≡ []
  no_ending node h =
      ap (λ x. endings_bytes (map (λ (y : tree.Node). ending_of (text_of bytes y)) x))
      (cond-false (same_name (node_name node) n.LineEnding) (node ∷ []) [] h)
