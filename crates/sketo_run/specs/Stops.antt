-- What the faults of the layers below come to, and the line and status of each.
use Rattle.std.specs.Prelude.{ℕ, List, map}
use Rattle.data_text.specs.declared.data_fault.DataFault.{DataFault}
use Rattle.data_text.specs.declared.data_fault.DataFault.TheVariants as data_fault
use Rattle.script_lang.specs.declared.fault.ScriptFault.{ScriptFault}
use Rattle.script_lang.specs.declared.fault.ScriptFault.TheVariants as script_fault
use Rattle.script_lang.specs.Views.{statement_of}
use Rattle.sketo_run.specs.declared.stop.Stop.{Stop}
use Rattle.sketo_run.specs.declared.stop.Stop.TheVariants as stop
use Rattle.sketo_run.specs.declared.status.Status.{Status}
use Rattle.sketo_run.specs.declared.status.Status.TheVariants as status
use Rattle.command_words.specs.Commands.{Files}
use Rattle.sketo_run.specs.Report.{read_failed, no_memory, not_built, script_line, fault_line, misfit_line}

abbrev pub stop_of_script : ScriptFault → Stop
stop_of_script script_fault.Memory = stop.NoMemory
stop_of_script fault = stop.BadScript fault

abbrev pub stop_of_data : DataFault → Stop
stop_of_data data_fault.Read = stop.DataUnread
stop_of_data data_fault.Memory = stop.NoMemory
stop_of_data fault = stop.BadData fault

-- the status that tells of it
abbrev pub status_of : Stop → Status
status_of stop.ScriptUnread = status.ReadFailed
status_of stop.DataUnread = status.ReadFailed
status_of (stop.BadScript fault) = status.ScriptRefused
status_of (stop.BadData fault) = status.DataRefused
status_of (stop.Unfit fault s) = status.DataRefused
status_of stop.NoMemory = status.NoMemory
status_of stop.NotBuilt = status.NotBuilt

-- the line that tells of it
abbrev pub line_of : Stop → Files → List ℕ
line_of stop.ScriptUnread files = read_failed files.script
line_of stop.DataUnread files = read_failed files.input
line_of (stop.BadScript fault) files = script_line files.script fault
line_of (stop.BadData fault) files = fault_line files.input fault
line_of (stop.Unfit fault s) files = misfit_line files.input (map statement_of s) fault
line_of stop.NoMemory files = no_memory
line_of stop.NotBuilt files = not_built
