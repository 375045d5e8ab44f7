-- What the words after the program's name ask for.
-- Source: this project.
use Rattle.std.specs.Prelude.{ℕ, ◌≤◌, Option, None, Some}
use Rattle.hd_terms.specs.Workers.{IsWorkers}
use Rattle.hd_arguments.specs.declared.task.Task.{Task}
use Rattle.hd_arguments.specs.declared.task.Task.TheVariants as tasks

-- from one analyst to the most
abbrev pub IsAnalysts : ℕ → Type 0
IsAnalysts n = (1 ≤ n) × (n ≤ 16)

-- a task has from one worker to the most, and from one analyst to the most
abbrev pub TaskWorkers : Task → Type 0
TaskWorkers (tasks.Run opening) = IsWorkers opening.workers
TaskWorkers (tasks.Stat opening) = IsWorkers opening.workers
TaskWorkers (tasks.Serve serving) = IsWorkers serving.opening.workers × IsAnalysts serving.analysts
TaskWorkers (tasks.Web browsing) = IsWorkers browsing.serving.opening.workers × IsAnalysts browsing.serving.analysts
TaskWorkers (tasks.Version version) = Unit {0}

abbrev pub HasWorkers : Option Task → Type 0
HasWorkers None = Unit {0}
HasWorkers (Some task) = TaskWorkers task
