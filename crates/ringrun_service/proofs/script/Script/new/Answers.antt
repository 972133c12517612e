use Rattle.ringrun_service.proofs.LinesLeft.{left_whole}
use Rattle.ringrun_service.specs.Rest.{script_left}
use Rattle.ringrun_service.specs.Script.{script_of}
use Rattle.ringrun_service.proofs.script.Script.new.Goals as goal

pub returns-clause-whole : goal.returns-clause-whole
unfolding script_left script_of
returns-clause-whole c = left_whole c.args.text.now
