use Rattle.std.proofs.Common.{rules, inl, inr, false, ℕ, List, Option}
use Rattle.hd_terms.specs.declared.Mode.TheVariants as modes
use Rattle.hd_arguments.specs.declared.task.Task.{Task}
use Rattle.hd_arguments.specs.declared.task.Task.TheVariants as tasks
use Rattle.hd_program.specs.Performing.{FailsFirst, Performs, RunsWords}
use Rattle.hd_program.proofs.performing.program.Goals as goal

-- what is done for a task is one of what a run with words does
runs_words : (task : Task) (input rest before after : Option (List ℕ)) (exit : ℕ) → Performs task input rest before after exit
    → RunsWords input rest before after exit
runs_words (tasks.Run opening) input rest before after exit (inl runs) = inr (opening.mode, opening.names, inl runs)
runs_words (tasks.Run opening) input rest before after exit (inr fails) = inr (opening.mode, opening.names, inr (inr (inr fails)))
runs_words (tasks.Stat opening) input rest before after exit (inl stats) = inr (opening.mode, opening.names, inr (inl stats))
runs_words (tasks.Stat opening) input rest before after exit (inr fails) = inr (opening.mode, opening.names, inr (inr (inr fails)))
runs_words (tasks.Serve serving) input rest before after exit serves = inr (serving.opening.mode, serving.opening.names, inr (inr (inl serves)))
runs_words (tasks.Web browsing) input rest before after exit serves =
    inr (browsing.serving.opening.mode, browsing.serving.opening.names, inr (inr (inl serves)))
runs_words (tasks.Version version) input rest before after exit tells = inl (version.now, tells)

pub returns-in-Ok-Some-clause-words : goal.returns-in-Ok-Some-clause-words
returns-in-Ok-Some-clause-words g c some = runs_words _ _ _ _ _ _ c.perform.ensures.performs

-- a run that fails first is one of what a run with words does, in whatever mode and with names or without
fails_words : (input rest before after : Option (List ℕ)) (exit : ℕ) → FailsFirst input rest before after exit → RunsWords input rest before after exit
fails_words input rest before after exit fails = inr (modes.Direct, false, inr (inr (inr fails)))

pub returns-in-Ok-None-clause-words : goal.returns-in-Ok-None-clause-words
returns-in-Ok-None-clause-words g c some = fails_words _ _ _ _ _ (record { unread = search rules; unwritten = search rules; failed = search rules })

pub returns-in-Err-clause-words : goal.returns-in-Err-clause-words
returns-in-Err-clause-words g c some = fails_words _ _ _ _ _ (record { unread = search rules; unwritten = search rules; failed = search rules })
