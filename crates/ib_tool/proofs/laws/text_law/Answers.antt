-- One outcome has one text.
use Rattle.ib_tool.proofs.laws.text_law.Goals as goal

pub returns : goal.returns
returns c script place text other alone run again room roomy =
    let same = c.alone_law.ensures script.sizes script.commands place run.runs again.runs run.log again.log alone run.outcome again.outcome room roomy in
    let runs = same.0 in
    let history = same.1 in
    let pages = same.2 in
    let one = run.printed in
    let two = again.printed in
    cc
