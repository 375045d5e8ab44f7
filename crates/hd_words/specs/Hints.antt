-- Lines that a person at a terminal is told how to mend.
-- Source: this project's protocol (docs/PROTOCOL.md).
use Rattle.std.specs.Prelude.{Bool, true, false, Result, Ok, Err}
use Rattle.hd_lines.specs.declared.commands.Command.{Command}
use Rattle.hd_lines.specs.declared.commands.LineFault.{LineFault}
use Rattle.hd_lines.specs.declared.commands.LineFault.TheVariants as faults

-- a line is no command, since its first word is none or since its arguments don't fit
abbrev pub is_misspelled : Result Command LineFault → Bool
is_misspelled (Ok command) = false
is_misspelled (Err faults.LineTooLong) = false
is_misspelled (Err faults.UnknownCommand) = true
is_misspelled (Err faults.BadArgument) = true
