-- Sessions of which the definitions leave one text, but for chains.
-- Source: this project. Which chain is shown is left open; so is when memory runs out or a log is foreign, and what others do beside
-- a private part.
use Rattle.std.specs.Prelude.{◌≡◌, ℕ, Bool, List, [], ◌∷◌, Option, Result, Ok}
use Rattle.std.specs.List.{AllByRecursion}
use Rattle.hd_lines.specs.declared.commands.Command.{Command}
use Rattle.hd_lines.specs.declared.commands.Command.TheVariants as commands
use Rattle.hd_lines.specs.declared.commands.Query.TheVariants as queries
use Rattle.hd_lines.specs.declared.commands.LineFault.{LineFault}
use Rattle.hd_terms.specs.Dump.{Dump}
use Rattle.hd_lines.specs.Lines.{command_of}
use Rattle.hd_lines.specs.Replies.{IsUnserved, accepted_reply}
use Rattle.hd_lines.specs.Sessions.{Turn, IsServedBy, IsSessionAlone}

-- no chain is asked for
abbrev pub AsksNoChain : Result Command LineFault → Type 0
AsksNoChain r = (most : Option ℕ) (id : ℕ) → r ≡ Ok (commands.Ask most (queries.Chain id)) → ⊥

-- a turn that begins no private part, and whose command was served: memory didn't run out, neither before its event was
-- taken nor after, and the board's log wasn't foreign
pub record IsPlain (t : Turn) : Type 0 where
  pub is_open : command_of t.line ≡ Ok commands.Private → ⊥
  pub served : IsUnserved t.reply → ⊥
  pub finished : (event : ℕ) → t.reply ≡ accepted_reply event → ⊥

-- the whole input was served by these turns to the analyst 0, alone from the empty log, and all are plain
pub record IsServedPlainly (dump : Dump) (names : Bool) (input written : List ℕ) (turns : List Turn) : Type 0 where
  pub served : IsServedBy (IsSessionAlone dump names) turns input written
  pub plain : AllByRecursion IsPlain turns

-- as many turns, with the same replies but for those to `chain`
abbrev pub AreAlike : (turns others : List Turn) → Type 0
AreAlike [] [] = Unit {0}
AreAlike [] (u ∷ us) = ⊥
AreAlike (t ∷ ts) [] = ⊥
AreAlike (t ∷ ts) (u ∷ us) = (AsksNoChain (command_of t.line) → t.reply ≡ u.reply) × AreAlike ts us
