use Rattle.worker_split.proofs.Schedules.{each_schedule}
use Rattle.worker_split.proofs.schedule.each_schedule_deals.Goals as goal

pub returns : goal.returns
returns c = each_schedule
