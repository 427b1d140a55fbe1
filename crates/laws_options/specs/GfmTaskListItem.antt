-- Pages without checks.
use Rattle.std.specs.Prelude.{◌≡◌, ℕ, false, List}
use Rattle.markdown_options.specs.declared.configuration.ParseOptions.{ParseOptions}
use Rattle.definition_inline.specs.Inline.{TaskCheck, Inline, Leaf}
use Rattle.definition_inline.specs.EachPart.{EachOf}
use Rattle.definition_page.specs.TextTables.{TextTables}
use Rattle.definition_page.specs.Page as page
use Rattle.definition_page.specs.Read.{read}

-- a part that is no check
abbrev pub IsNoCheck : Inline → Type 0
IsNoCheck (Leaf (TaskCheck done)) = ⊥
IsNoCheck i = Unit {0}

-- a leaf that is no paragraph with a check
abbrev pub LeafHasNoCheck : page.PageLeaf → Type 0
LeafHasNoCheck (page.Paragraph is) = EachOf IsNoCheck is
LeafHasNoCheck leaf = Unit {0}

-- no paragraph has a check, at any depth
abbrev mutual
  pub HasNoCheck : page.Block → Type 0
  HasNoCheck (page.Leaf leaf) = LeafHasNoCheck leaf
  HasNoCheck (page.Holds c kids) = HaveNoChecks kids
  HasNoCheck (page.ItemList number loose items) = HaveNoChecks items
  HasNoCheck b = Unit {0}

  pub HaveNoChecks : page.Blocks → Type 0
  HaveNoChecks page.Nil = Unit {0}
  HaveNoChecks (page.Cons b bs) = HasNoCheck b × HaveNoChecks bs

-- where task list items are off, no paragraph of a page has a check (GFM 5.3)
abbrev pub TaskListItemOffLaw : Type 0
TaskListItemOffLaw =
    (tables : TextTables) (text : List ℕ) (options : ParseOptions) → options.constructs.gfm_task_list_item ≡ false
    → HaveNoChecks (read tables options text).blocks
