-- Data beside data: however it is joined, its nodes are its bytes.
use Rattle.std.proofs.Common.{◌≡◌, ℕ, ◌+◌, ◌-◌, ◌<◌, zero, suc, true, false, ◌&&◌, List, [], ◌∷◌, ◌++◌, inl, inr, refl, sym, ap, ap₂, ◌∙◌, subst, arith}
use Rattle.std.proofs.Common.{length, length-append}
use Rattle.std.specs.Prelude.{◌==◌, if◌then◌else◌}
use denote.Enum.Bare.{same_true}
use Rattle.engine_events.specs.Names.{same_name}
use Rattle.engine_events.specs.contracts.event.Name.{the_type}
use Rattle.std.proofs.lemmas.Bool.{and_parts, cases_Bool, cond-false, cond-true, ne_eqb}
use Rattle.definition_text.specs.Columns.{Code, is_tab_column}
use Rattle.engine_events.specs.Columns.{tab_size}
use Rattle.engine_events.specs.declared.event.Name.{Name}
use Rattle.engine_events.specs.declared.event.Name.TheVariants as n
use Rattle.event_definition.specs.Pieces.{Piece, Token, Around, Pieces, Nil, Cons, merged, token_before}
use Rattle.event_grammar.specs.Points.{edge, spot}
use Rattle.event_grammar.specs.Trees.{Nodes}
use Rattle.event_grammar.specs.Trees as tree
use Rattle.parse_output.specs.declared.end.End.{End}
use Rattle.parse_output.specs.Ends.{end_columns, enter_at, exit_at, index_spot}
use Rattle.parse_output.specs.Forest.{append, byte_node, byte_nodes, one, void_nodes}
use Rattle.parse_output.proofs.Forests.{append-assoc, data_forest}
use Rattle.parse_pieces.specs.Nodes.{nodes, piece_nodes}
use Rattle.parse_pieces.specs.Sizes.{code_size, codes_size, columns, columns_of, end_of, piece_columns, piece_size, pieces_size}
use Rattle.parse_pieces.specs.Codes.{AllCome, Comes}
use Rattle.parse_pieces.specs.Coming.{PieceComes, PiecesCome}
use Rattle.parse_pieces.proofs.Points.{columns_some, end_some}

the_name : (name other : Name) → same_name name other ≡ true → name ≡ other
the_name name other h = same_true the_type tt name other h

-- ---- edges

-- where the bytes before an end are over
abbrev edge_of : List ℕ → End → ℕ
edge_of text e = edge (spot e.index (end_columns text e))

edge_none : (text : List ℕ) (before : ℕ) → edge_of text (end_of before 0) ≡ before
edge_none text before = refl

edge_some : (text : List ℕ) (before k : ℕ) → 0 < before → suc k < tab_size (index_spot text (before - 1)).column → edge_of text (end_of before (suc k)) ≡ before
edge_some text before k some fewer =
    let i = before - 1 in
    let size = tab_size (index_spot text i).column in
    let there : ((size - suc k) == 0) ≡ false = ne_eqb (size - suc k) 0 (λ (e : size - suc k ≡ 0). omega (arith, e, fewer)) in
    let whole : i + 1 ≡ before = omega (arith, some) in
    ap (edge_of text) (end_some before k) ∙ ap (λ (v : ℕ). edge (spot i v)) (columns_some (index_spot text i) k)
    ∙ cond-false ((size - suc k) == 0) i (i + 1) there ∙ whole

-- where codes begin, and where they end
edge_first : (text : List ℕ) (before : ℕ) (cs : List Code) (after : ℕ) → AllCome text before cs after → 0 < length cs
    → edge_of text (end_of before (columns_of cs after)) ≡ before
edge_first text before [] after come some = absurd (omega (arith, some))
edge_first text before (c ∷ cs) after come some =
    elim (cases_Bool (is_tab_column c)) [
      | inl h ↦
          let col = come.0.column h in
          let owed : columns_of (c ∷ cs) after ≡ suc (columns_of cs after) =
          cond-true (is_tab_column c) _ _ h ∙ (let one : 1 + columns_of cs after ≡ suc (columns_of cs after) = omega arith in one) in
          ap (λ (k : ℕ). edge_of text (end_of before k)) owed ∙ edge_some text before (columns_of cs after) col.0 (omega (arith, col.4))
      | inr h ↦ ap (λ (k : ℕ). edge_of text (end_of before k)) (cond-false (is_tab_column c) _ _ h)
    ]

edge_one : (text : List ℕ) (before : ℕ) (c : Code) (after : ℕ) → Comes text before c after → edge_of text (end_of (before + code_size c) after) ≡ before + code_size c
edge_one text before c zero comes = refl
edge_one text before c (suc k) comes =
    elim (cases_Bool (is_tab_column c)) [
      | inl h ↦
          let col = comes.column h in
          let size : code_size c ≡ 0 = cond-true (is_tab_column c) _ _ h in
          let here : before + code_size c ≡ before = omega (arith, size) in
          ap (λ (b : ℕ). edge_of text (end_of b (suc k))) here ∙ edge_some text before k col.0 (omega (arith, col.4)) ∙ sym here
      | inr h ↦
          let first = comes.first h (omega arith) in
          let size : code_size c ≡ 1 = ap code_size first.0 in
          let back : (before + code_size c) - 1 ≡ before = omega (arith, size) in
          edge_some text (before + code_size c) k (omega (arith, size))
          (omega (arith, first.1, ap (λ (i : ℕ). tab_size (index_spot text i).column) back))
    ]

edge_last : (text : List ℕ) (before : ℕ) (cs : List Code) (after : ℕ) → AllCome text before cs after → 0 < length cs
    → edge_of text (end_of (before + codes_size cs) after) ≡ before + codes_size cs
edge_last text before [] after come some = absurd (omega (arith, some))
edge_last text before (c ∷ []) after come some =
    let size : before + (code_size c + 0) ≡ before + code_size c = omega arith in
    ap (λ (b : ℕ). edge_of text (end_of b after)) size ∙ edge_one text before c after come.0 ∙ sym size
edge_last text before (c ∷ d ∷ ds) after come some =
    let size : before + (code_size c + codes_size (d ∷ ds)) ≡ (before + code_size c) + codes_size (d ∷ ds) = omega arith in
    ap (λ (b : ℕ). edge_of text (end_of b after)) size ∙ edge_last text (before + code_size c) (d ∷ ds) after come.1 (omega arith) ∙ sym size

-- ---- data

-- the nodes of data are its bytes
data_bytes : (text : List ℕ) (before : ℕ) (cs : List Code) (after : ℕ) → AllCome text before cs after → 0 < length cs
    → void_nodes text n.Data (end_of before (columns_of cs after)) (end_of (before + codes_size cs) after) ≡ byte_nodes before (codes_size cs)
data_bytes text before cs after come some =
    let from = end_of before (columns_of cs after) in
    let to = end_of (before + codes_size cs) after in
    let size : (before + codes_size cs) - before ≡ codes_size cs = omega arith in
    data_forest text from to
    ∙ ap₂ (λ (a b : ℕ). byte_nodes a (b - a)) (edge_first text before cs after come some) (edge_last text before cs after come some)
    ∙ ap (byte_nodes before) size

bytes_both : (i a b : ℕ) → append (byte_nodes i a) (byte_nodes (i + a) b) ≡ byte_nodes i (a + b)
bytes_both i zero b =
    let here : i + 0 ≡ i = omega arith in
    let all : b ≡ 0 + b = omega arith in
    ap (λ (k : ℕ). byte_nodes k b) here ∙ ap (byte_nodes i) all
bytes_both i (suc a) b =
    let later : i + suc a ≡ (i + 1) + a = omega arith in
    let all : suc (a + b) ≡ suc a + b = omega arith in
    ap (λ (k : ℕ). append (byte_nodes i (suc a)) (byte_nodes k b)) later ∙ ap (tree.Cons (byte_node i)) (bytes_both (i + 1) a b) ∙ ap (byte_nodes i) all

-- codes, one after another
size_both : (cs ds : List Code) → codes_size (cs ++ ds) ≡ codes_size cs + codes_size ds
size_both [] ds = omega arith
size_both (c ∷ cs) ds = omega (arith, size_both cs ds)

columns_both : (cs ds : List Code) (after : ℕ) → columns_of (cs ++ ds) after ≡ columns_of cs (columns_of ds after)
columns_both [] ds after = refl
columns_both (c ∷ cs) ds after = ap (λ (k : ℕ). if is_tab_column c then 1 + k else 0) (columns_both cs ds after)

come_both : (text : List ℕ) (before : ℕ) (cs ds : List Code) (after : ℕ) → AllCome text before cs (columns_of ds after) → AllCome text (before + codes_size cs) ds after
    → AllCome text before (cs ++ ds) after
come_both text before [] ds after first second =
    let same : before + 0 ≡ before = omega arith in subst (λ (b : ℕ). AllCome text b ds after) same second
come_both text before (c ∷ cs) ds after first second =
    let size : before + (code_size c + codes_size cs) ≡ (before + code_size c) + codes_size cs = omega arith in (
      subst (Comes text before c) (sym (columns_both cs ds after)) first.0,
      come_both text (before + code_size c) cs ds after first.1 (subst (λ (b : ℕ). AllCome text b ds after) size second),
    )

-- ---- pieces with the same nodes

-- The first pieces come where the others do, and have the same nodes.
record AreSame (text : List ℕ) (before : ℕ) (ps qs : Pieces) (after : ℕ) : Type 0 where
  come : PiecesCome text before ps after
  columns_are : columns ps after ≡ columns qs after
  size : pieces_size ps ≡ pieces_size qs
  nodes_are : nodes text before ps after ≡ nodes text before qs after

same_self : (text : List ℕ) (before : ℕ) (ps : Pieces) (after : ℕ) → PiecesCome text before ps after → AreSame text before ps ps after
same_self text before ps after come = record { come = come; columns_are = refl; size = refl; nodes_are = refl }

same_both : (text : List ℕ) (before : ℕ) (ps qs rs : Pieces) (after : ℕ) → AreSame text before ps qs after → AreSame text before qs rs after → AreSame text before ps rs after
same_both text before ps qs rs after first second =
    record {
      come = first.come;
      columns_are = first.columns_are ∙ second.columns_are;
      size = first.size ∙ second.size;
      nodes_are = first.nodes_are ∙ second.nodes_are;
    }

-- data that is joined
joined_same : (text : List ℕ) (before : ℕ) (cs ds : List Code) (ps : Pieces) (after : ℕ) → PiecesCome text before (Cons (Token n.Data cs) (Cons (Token n.Data ds) ps)) after
    → AreSame text before (Cons (Token n.Data (cs ++ ds)) ps) (Cons (Token n.Data cs) (Cons (Token n.Data ds) ps)) after
joined_same text before cs ds ps after come =
    let later = columns ps after in
    let first = come.0 in
    let second = come.1.0 in
    let all = come_both text before cs ds later first.2 second.2 in
    let size = size_both cs ds in
    let some : 0 < length (cs ++ ds) = omega (arith, length-append cs ds, first.1) in
    let there : before + codes_size (cs ++ ds) ≡ (before + codes_size cs) + codes_size ds = omega (arith, size) in
    let own = data_bytes text before (cs ++ ds) later all some in
    let one_by = data_bytes text before cs (columns_of ds later) first.2 first.1 in
    let two_by = data_bytes text (before + codes_size cs) ds later second.2 second.1 in
    let rest = nodes text ((before + codes_size cs) + codes_size ds) ps after in
    record {
      come = ((refl, some, all), subst (λ (b : ℕ). PiecesCome text b ps after) (sym there) come.1.1);
      columns_are = columns_both cs ds later;
      size = omega (arith, size);
      nodes_are =
          ap₂ append (own ∙ ap (byte_nodes before) size ∙ sym (bytes_both before (codes_size cs) (codes_size ds)) ∙ ap₂ append (sym one_by) (sym two_by))
          (ap (λ (b : ℕ). nodes text b ps after) there)
          ∙ append-assoc (piece_nodes text before (Token n.Data cs) (columns_of ds later)) (piece_nodes text (before + codes_size cs) (Token n.Data ds) later) rest;
    }

before_same : (text : List ℕ) (before : ℕ) (name : Name) (cs : List Code) (ps : Pieces) (after : ℕ) → PiecesCome text before (Cons (Token name cs) ps) after
    → AreSame text before (token_before name cs ps) (Cons (Token name cs) ps) after
before_same text before name cs Nil after come = same_self text before (Cons (Token name cs) Nil) after come
before_same text before name cs (Cons (Around other kids) ps) after come = same_self text before (Cons (Token name cs) (Cons (Around other kids) ps)) after come
before_same text before name cs (Cons (Token other ds) ps) after come =
    let all = Cons (Token name cs) (Cons (Token other ds) ps) in
    elim (cases_Bool (same_name name n.Data && same_name other n.Data)) [
      | inr h ↦
          subst (λ (qs : Pieces). AreSame text before qs all after) (sym (cond-false (same_name name n.Data && same_name other n.Data) _ _ h))
          (same_self text before all after come)
      | inl h ↦
          let parts = and_parts (same_name name n.Data) (same_name other n.Data) h in
          let own = the_name name n.Data parts.0 in
          let next = the_name other n.Data parts.1 in
          let both_data = Cons (Token n.Data cs) (Cons (Token n.Data ds) ps) in
          let is : all ≡ both_data = ap₂ (λ (x y : Name). Cons (Token x cs) (Cons (Token y ds) ps)) own next in
          subst (λ (qs : Pieces). AreSame text before qs all after) (sym (cond-true (same_name name n.Data && same_name other n.Data) _ _ h))
          (subst (λ (qs : Pieces). AreSame text before (Cons (Token n.Data (cs ++ ds)) ps) qs after) (sym is)
          (joined_same text before cs ds ps after (subst (λ (qs : Pieces). PiecesCome text before qs after) is come)))
    ]

-- the same piece before pieces with the same nodes
then_same : (text : List ℕ) (before : ℕ) (p : Piece) (ps qs : Pieces) (after : ℕ) → PieceComes text before p (columns qs after)
    → AreSame text (before + piece_size p) ps qs after → AreSame text before (Cons p ps) (Cons p qs) after
then_same text before p ps qs after come same =
    record {
      come = (subst (PieceComes text before p) (sym same.columns_are) come, same.come);
      columns_are = ap (piece_columns p) same.columns_are;
      size = omega (arith, same.size);
      nodes_are = ap₂ (λ (k : ℕ) (ns : Nodes). append (piece_nodes text before p k) ns) same.columns_are same.nodes_are;
    }

-- a name around pieces with the same nodes
around_same : (text : List ℕ) (before : ℕ) (name : Name) (kids others : Pieces) (ps qs : Pieces) (after : ℕ)
    → AreSame text before kids others (columns qs after) → AreSame text (before + pieces_size others) ps qs after
    → AreSame text before (Cons (Around name kids) ps) (Cons (Around name others) qs) after
around_same text before name kids others ps qs after inner same =
    let later = columns qs after in
    let size : before + pieces_size others ≡ before + pieces_size kids = omega (arith, inner.size) in
    let own : piece_nodes text before (Around name kids) later ≡ piece_nodes text before (Around name others) later =
    ap₂ (λ (k m : ℕ). one (tree.Around (enter_at text name (end_of before k)) (nodes text before kids later) (exit_at text name (end_of (before + m) later))))
    inner.columns_are inner.size
    ∙ ap (λ (ns : Nodes). one (tree.Around (enter_at text name (end_of before (columns others later))) ns (exit_at text name (end_of (before + pieces_size others) later))))
    inner.nodes_are in
    record {
      come = (
        subst (PiecesCome text before kids) (sym same.columns_are) inner.come,
        subst (λ (b : ℕ). PiecesCome text b ps after) size same.come,
      );
      columns_are = ap (columns kids) same.columns_are ∙ inner.columns_are;
      size = omega (arith, inner.size, same.size);
      nodes_are =
          ap₂ (λ (k b : ℕ). append (piece_nodes text before (Around name kids) k) (nodes text b ps after)) same.columns_are (sym size)
          ∙ ap₂ append own same.nodes_are;
    }

merged_same : (text : List ℕ) (before : ℕ) (ps : Pieces) (after : ℕ) → PiecesCome text before ps after → AreSame text before (merged ps) ps after
merged_same text before Nil after come = same_self text before Nil after come
merged_same text before (Cons (Token name cs) ps) after come =
    let others = merged_same text (before + codes_size cs) ps after come.1 in
    let own = then_same text before (Token name cs) (merged ps) ps after come.0 others in
    same_both text before (token_before name cs (merged ps)) (Cons (Token name cs) (merged ps)) (Cons (Token name cs) ps) after
    (before_same text before name cs (merged ps) after own.come) own
merged_same text before (Cons (Around name kids) ps) after come =
    around_same text before name (merged kids) kids (merged ps) ps after (merged_same text before kids (columns ps after) come.0)
    (merged_same text (before + pieces_size kids) ps after come.1)

pub merged_nodes : (text : List ℕ) (before : ℕ) (ps : Pieces) (after : ℕ) → PiecesCome text before ps after → nodes text before (merged ps) after ≡ nodes text before ps after
merged_nodes text before ps after come = (merged_same text before ps after come).nodes_are
