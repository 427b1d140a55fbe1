-- How raw HTML is printed (CommonMark 4.6 and 6.6).
use Rattle.std.specs.Prelude.{Bool, not, ◌&&◌}
use Rattle.markdown_compile_options.specs.declared.configuration.CompileOptions.{CompileOptions}

-- raw HTML is kept by the list: where that is allowed, and it isn't printed as it is
abbrev pub keeps_listed_html : CompileOptions → Bool
keeps_listed_html options = options.allow_listed_html && not options.allow_dangerous_html
