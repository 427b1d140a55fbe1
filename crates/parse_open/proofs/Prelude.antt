-- What several proofs of this crate import of other crates and of its own specs.
pub use Rattle.std.proofs.lemmas.Bool.{cond_both, eqb-true, false_from_ne_true, true≢false}
pub use Rattle.std.proofs.lemmas.List.{append-nil, map-append}
pub use Rattle.std.specs.Option.{option_map}
pub use Rattle.std.specs.Prelude.{if◌then◌else◌, is_some}
pub use Rattle.block_rows.specs.Rows.{spaced_leaf}
pub use Rattle.definition_block.specs.Container.{Container, Footnote, Item, Quote}
pub use Rattle.definition_block.specs.Definitions.{block_definitions, definitions, document_targets, leaf_definitions}
pub use Rattle.definition_block.specs.Lists.{after_endings, before_list, endings_at_front, endings_of, group_items, grouped_block, has_gap, has_gap_inside}
pub use Rattle.definition_block.specs.Lists.{is_loose, is_some_block, item_marker, list_items, list_marker, put_before, rest_of}
pub use Rattle.definition_block.specs.Tree.{Blank, Block, Blocks, Break, Cons as ConsBlock, Ending, FencedCode, Heading, Holds, Html, IndentedCode, is_ending}
pub use Rattle.definition_block.specs.Tree.{Items, join, Leaf, LeafBlock, Nil as NoBlock, one as one_block, Paragraph, Table}
pub use Rattle.definition_inline.specs.CharacterReference.{Names}
pub use Rattle.definition_inline.specs.Definition.{Definition}
pub use Rattle.definition_inline.specs.Inline.{Inlines}
pub use Rattle.definition_page.specs.InlinePieces.{Meaning}
pub use Rattle.definition_page.specs.Read.{after_leaf, ends_blank, in_container, is_blank_ending, list_number, next_standing, on_page, read_blocks}
pub use Rattle.definition_page.specs.Read.{read_container, read_leaf, Reading, reading, Standing, standing_in, without_ending}
pub use Rattle.definition_page.specs.TextTables.{TextTables}
pub use Rattle.engine_events.specs.Columns.{between}
pub use Rattle.engine_events.specs.Names.{is_listed, same_name}
pub use Rattle.engine_events.specs.contracts.event.Name.{the_type}
pub use Rattle.engine_events.specs.declared.event.Event.{Event}
pub use Rattle.engine_events.specs.declared.event.Name.{Name}
pub use Rattle.event_check.specs.Loose.{has_loose_item, is_loose_item}
pub use Rattle.event_grammar.specs.Grammar.{block_names}
pub use Rattle.event_grammar.specs.InGrammar.{node_name}
pub use Rattle.event_grammar.specs.Points.{edge, spot, spot_of}
pub use Rattle.event_grammar.specs.References.{named, own}
pub use Rattle.event_grammar.specs.Slots.{has}
pub use Rattle.event_grammar.specs.Trees.{Around, Cons, followed_by, growth, Nil, Node, Nodes, Part, tree}
pub use Rattle.event_grammar.specs.declared.slot.Child.{Child}
pub use Rattle.event_grammar.specs.declared.spot.Spot.{Spot}
pub use Rattle.event_meaning.specs.Blocks.{block_of, blocks_from, blocks_of, start_of}
pub use Rattle.event_meaning.specs.Children.{after_child, before_child, child, children, ends_in, inside_of, kids_in, text_in, text_of}
pub use Rattle.event_meaning.specs.Raw.{ending_of, raw_parts}
pub use Rattle.event_meaning.specs.Spelled.{definition_of, page_of}
pub use Rattle.event_meaning.specs.Strings.{string_of, written}
pub use Rattle.html_looseness.specs.declared.loose.Place.{Place}
pub use Rattle.markdown_options.specs.LineEndings.{ending_bytes}
pub use Rattle.markdown_options.specs.declared.configuration.ParseOptions.{ParseOptions}
pub use Rattle.markdown_options.specs.declared.container.Item.{Item as ItemParts}
pub use Rattle.markdown_options.specs.declared.line_ending.LineEnding.{LineEnding}
pub use Rattle.parse_alike.proofs.Composed.{alike_blocks_compose}
pub use Rattle.parse_alike.specs.Meanings.{AreMeanings}
pub use Rattle.parse_alike.specs.Page.{AreBlocksAlike}
pub use Rattle.parse_alike.specs.Targets.{AreDefinitionsAlike}
pub use Rattle.parse_output.specs.Forest.{append, byte_node, byte_nodes, bytewise, cut, exited, one}
pub use Rattle.parse_open.specs.BytewiseSound.{AreBetween, AreSound, HaveNoData, IsSound}
pub use Rattle.parse_open.specs.Fronts.{ends_in_blank, IsFront, IsSpelledPage}
pub use Rattle.parse_open.specs.Levels.{AreMute, AreOpen, BeginWith, Spell, Spells}
pub use Rattle.parse_open.specs.Lines.{AreSpread, line_at}
pub use Rattle.parse_open.specs.Open.{bare_block, bare_blocks, bare_container, Holder, InContainer, InList, is_in_list, Level, level, Opened, opened}
pub use Rattle.parse_open.specs.Steps.{IsEndingNode}
