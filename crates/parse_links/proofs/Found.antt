-- Where the string of a link or an image is found among nodes (CommonMark 6.3).
use Rattle.parse_links.proofs.Prelude.{append, append-nil, ArePlain, Around, bytes_text, cond-false, cond-true, Cons, Constructs, false_from_ne_true, Holds}
use Rattle.parse_links.proofs.Prelude.{inside_of, is_listed, IsQuoted, IsRaw, IsStringNode, IsVoidOf, kids_of, Name, named, named_both, Names, Node, node_name}
use Rattle.parse_links.proofs.Prelude.{Nodes, one, option_or, own, own_both, same_name, same_self, some_nodes, string_of, tail_names, true≢false}
use Rattle.std.proofs.Common.{◌≡◌, ℕ, true, false, List, [], ◌++◌, Option, None, Some, refl, sym, ap, ap₂, subst, ◌∙◌}
use denote.Enum.Bare.{same_true}
use Rattle.engine_events.specs.contracts.event.Name.{the_type}
use Rattle.engine_events.specs.declared.event.Name.TheVariants as n
use Rattle.event_grammar.specs.References.{media_names, named_in}
use Rattle.parse_strings.proofs.PlainNodes.{plain_none, plain_one, sought_names}

-- of what is looked for in a link, these nodes have one string, if it has a node
pub record FindsString (name : Name) (held : Option Node) (ns : Nodes) : Type 0 where
  pub found : own name ns ≡ held
  pub others : (other : Name) → is_listed tail_names other ≡ true → same_name name other ≡ false → own other ns ≡ None
  pub definitions : named n.Definition ns ≡ []
  pub columns : named n.GfmTableDelimiterCellValue ns ≡ []

-- a name that isn't in a list isn't one that is
pub apart : (names : List Name) (this name : Name) → is_listed names this ≡ false → is_listed names name ≡ true → same_name this name ≡ false
apart names this name other listed =
    false_from_ne_true (same_name this name)
    (λ same. true≢false (sym listed ∙ ap (is_listed names) (sym (same_true the_type tt this name same)) ∙ other))

or_none : (o : Option Node) → option_or o None ≡ o
or_none None = refl
or_none (Some x) = refl

pub own_found : (node : Node) (name : Name) → node_name node ≡ name → is_listed media_names name ≡ false → own name (one node) ≡ Some node
own_found (Around enter kids exit) name is media =
    ap (λ o. option_or o None)
    (cond-false (is_listed media_names enter.name) _ _ (ap (is_listed media_names) is ∙ media)
    ∙ cond-true (same_name enter.name name) _ _ (ap (λ (x : Name). same_name x name) is ∙ same_self name))

pub own_around : (node : Node) (name : Name) → is_listed media_names (node_name node) ≡ false → same_name (node_name node) name ≡ false
    → own name (one node) ≡ own name (kids_of node)
own_around (Around enter kids exit) name media other =
    ap (λ o. option_or o None) (cond-false (is_listed media_names enter.name) _ _ media ∙ cond-false (same_name enter.name name) _ _ other)
    ∙ or_none (own name kids)

pub named_around : (node : Node) (name : Name) → same_name (node_name node) name ≡ false → named name (one node) ≡ named name (kids_of node)
named_around (Around enter kids exit) name other = append-nil (named_in name (Around enter kids exit)) ∙ cond-false (same_name enter.name name) _ _ other

-- a name under which nothing is looked for
pub record IsUnsought (this : Name) : Type 0 where
  pub media : is_listed media_names this ≡ false
  pub sought : is_listed sought_names this ≡ false
  pub tail : is_listed tail_names this ≡ false
  pub definition : same_name this n.Definition ≡ false
  pub column : same_name this n.GfmTableDelimiterCellValue ≡ false

pub unsought_tail : (this other : Name) → IsUnsought this → is_listed tail_names other ≡ true → same_name this other ≡ false
unsought_tail this other h listed =
    apart tail_names this other h.tail listed

pub unsought_definition : (this : Name) → IsUnsought this → same_name this n.Definition ≡ false
unsought_definition this h = h.definition

-- plain nodes before and after
pub finds_after : (name : Name) (held : Option Node) (ns ms : Nodes) → is_listed tail_names name ≡ true → ArePlain ns → FindsString name held ms
    → FindsString name held (append ns ms)
finds_after name held ns ms listed plain finds = record {
  found = own_both name ns ms ∙ ap₂ option_or (plain.tails name listed) finds.found;
  others = λ other is apart. own_both other ns ms ∙ ap₂ option_or (plain.tails other is) (finds.others other is apart);
  definitions = named_both n.Definition ns ms ∙ ap₂ (λ (xs ys : List Node). xs ++ ys) plain.definitions finds.definitions;
  columns = named_both n.GfmTableDelimiterCellValue ns ms ∙ ap₂ (λ (xs ys : List Node). xs ++ ys) plain.columns finds.columns;
}

pub finds_before : (name : Name) (held : Option Node) (ns ms : Nodes) → is_listed tail_names name ≡ true → FindsString name held ns → ArePlain ms
    → FindsString name held (append ns ms)
finds_before name held ns ms listed finds plain = record {
  found = own_both name ns ms ∙ ap₂ option_or finds.found (plain.tails name listed) ∙ or_none held;
  others = λ other is apart. own_both other ns ms ∙ ap₂ option_or (finds.others other is apart) (plain.tails other is);
  definitions = named_both n.Definition ns ms ∙ ap₂ (λ (xs ys : List Node). xs ++ ys) finds.definitions plain.definitions;
  columns = named_both n.GfmTableDelimiterCellValue ns ms ∙ ap₂ (λ (xs ys : List Node). xs ++ ys) finds.columns plain.columns;
}

-- in a node
pub finds_around : (name : Name) (held : Option Node) (node : Node) (this : Name) (kids : Nodes) → is_listed tail_names name ≡ true → IsUnsought this
    → node_name node ≡ this → kids_of node ≡ kids → FindsString name held kids → FindsString name held (one node)
finds_around name held node this kids listed unsought is are finds =
    let media : is_listed media_names (node_name node) ≡ false = ap (is_listed media_names) is ∙ unsought.media in
    let other : (other : Name) → is_listed tail_names other ≡ true → same_name (node_name node) other ≡ false =
    λ x h. ap (λ (y : Name). same_name y x) is ∙ unsought_tail this x unsought h in
    record {
      found = own_around node name media (other name listed) ∙ ap (own name) are ∙ finds.found;
      others = λ x h apart. own_around node x media (other x h) ∙ ap (own x) are ∙ finds.others x h apart;
      definitions =
          named_around node n.Definition (ap (λ (y : Name). same_name y n.Definition) is ∙ unsought_definition this unsought)
          ∙ ap (named n.Definition) are ∙ finds.definitions;
      columns =
          named_around node n.GfmTableDelimiterCellValue (ap (λ (y : Name). same_name y n.GfmTableDelimiterCellValue) is ∙ unsought.column)
          ∙ ap (named n.GfmTableDelimiterCellValue) are ∙ finds.columns;
    }

-- the name of a string that is looked for in a link
pub record IsStringName (name : Name) : Type 0 where
  pub listed : is_listed tail_names name ≡ true
  pub media : is_listed media_names name ≡ false
  pub definition : same_name name n.Definition ≡ false
  pub column : same_name name n.GfmTableDelimiterCellValue ≡ false

pub void_plain : (node : Node) (name : Name) → IsUnsought name → IsVoidOf name node → ArePlain (one node)
void_plain node name unsought is =
    plain_one node (ap (is_listed sought_names) is.0 ∙ unsought.sought) (subst ArePlain (sym is.1) plain_none)

module _ (on : Constructs) (names : Names) (text : List ℕ) where
  pub finds_string : (name : Name) (string : List ℕ) (node : Node) → IsStringName name → IsStringNode on names text name string node
      → FindsString name (Some node) (one node)
  finds_string name string node of is =
      let media : is_listed media_names (node_name node) ≡ false = ap (is_listed media_names) is.named ∙ of.media in
      record {
        found = own_found node name is.named of.media;
        others = λ other h apart. own_around node other media (ap (λ (y : Name). same_name y other) is.named ∙ apart) ∙ is.plain.tails other h;
        definitions =
            named_around node n.Definition (ap (λ (y : Name). same_name y n.Definition) is.named ∙ of.definition) ∙ is.plain.definitions;
        columns =
            named_around node n.GfmTableDelimiterCellValue (ap (λ (y : Name). same_name y n.GfmTableDelimiterCellValue) is.named ∙ of.column)
            ∙ is.plain.columns;
      }

  finds_held : (name : Name) (string : List ℕ) (held : Option Node) → IsStringName name → Holds on names text name string held
      → FindsString name held (some_nodes held)
  finds_held name string None of holds = record { found = refl; others = λ other h apart. refl; definitions = refl; columns = refl }
  finds_held name string (Some node) of holds = finds_string name string node of holds

  pub finds_quoted : (outer marker name : Name) (string : List ℕ) (node : Node) → IsUnsought outer → IsUnsought marker → IsStringName name
      → (is : IsQuoted on names text outer marker name string node) → FindsString name is.held (one node)
  finds_quoted outer marker name string node one_is two_is of is =
      finds_around name is.held node outer (Cons is.first (append (some_nodes is.held) (one is.last))) of.listed one_is is.named is.kids
      (finds_after name is.held (one is.first) (append (some_nodes is.held) (one is.last)) of.listed (void_plain is.first marker two_is is.void_first)
      (finds_before name is.held (some_nodes is.held) (one is.last) of.listed (finds_held name string is.held of is.holds)
      (void_plain is.last marker two_is is.void_last)))

  pub finds_raw : (outer name : Name) (string : List ℕ) (node : Node) → IsUnsought outer → IsStringName name → (is : IsRaw on names text outer name string node)
      → FindsString name (Some is.held) (one node)
  finds_raw outer name string node one_is of is =
      finds_around name (Some is.held) node outer (one is.held) of.listed one_is is.named is.kids (finds_string name string is.held of is.holds)

  -- what is found spells what the string stands for
  pub held_spells : (name : Name) (string : List ℕ) (held : Option Node) → Holds on names text name string held
      → string_of names text (inside_of held) ≡ bytes_text on names string
  held_spells name string None holds = ap (bytes_text on names) (sym holds)
  held_spells name string (Some node) holds = holds.spells
