-- Which of the open containers are quotes.
use Rattle.std.specs.Prelude.{◌≡◌, ℕ, ◌≤◌, ◌<◌, Bool, true, false, List, length, slice_index_or}
use Rattle.definition_block.specs.Container.{Container, Quote}
use Rattle.definition_block.specs.Tree.{Blocks, Opening, Inside, Tree, began_blank}
use Rattle.block_state.specs.Spine.{Level, spine_at, spine_of}

abbrev pub is_quote : Container → Bool
is_quote Quote = true
is_quote c = false

-- no container from this depth on is a quote
abbrev pub NoQuoteFrom : ℕ → List Container → Type 0
NoQuoteFrom depth containers = (k : ℕ) → depth ≤ k → k < length containers → is_quote (slice_index_or containers k Quote) ≡ false

-- no open container began with a blank line, and has nothing else
abbrev pub NoneBeganBlank : Tree → Type 0
NoneBeganBlank t = (around : List Level) (kids inner_kids : Blocks) (c : Container) (inner : Opening)
    → spine_at around kids (Inside c inner_kids inner) ≡ spine_of t → began_blank inner_kids inner ≡ false
