use Rattle.std.proofs.Common.{codes}
use Rattle.std.specs.Fmt.{signed_decimal}
use Rattle.ringrun_service.proofs.Appended.{appended, number_appended}
use Rattle.ringrun_service.proofs.replies.push_reply.Goals as goal

pub returns-in-Some : goal.returns-in-Some
returns-in-Some c = rw c.in-Pushed.is (rw c.in-Some.is
    (number_appended c.push_number_line.result _ c.args.text.now.items (codes "pushed over ") (signed_decimal c.in-Some.old) (codes "\n") c.push_number_line.ensures))

pub returns-in-None-taken : goal.returns-in-None-taken
returns-in-None-taken c = rw c.in-Dequeued.is (rw c.in-None-taken.is
    (appended c.extend_from_slice-in-None-taken.result _ c.args.text.now.items (codes "dequeued none\n") c.extend_from_slice-in-None-taken.ensures.items))
