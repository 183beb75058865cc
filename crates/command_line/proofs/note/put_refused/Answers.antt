use Rattle.command_line.proofs.note.put_refused.Goals as goal

pub returns-in-TooLong : goal.returns-in-TooLong
returns-in-TooLong g c = rw c.in-TooLong.is (rw c.as_str.ensures.value at (rw c.as_bytes.ensures.value at c.put_too_long.ensures))

pub returns-in-IllTyped : goal.returns-in-IllTyped
returns-in-IllTyped g c = rw c.in-IllTyped.is c.put_rule.ensures

pub returns-in-IllScoped : goal.returns-in-IllScoped
returns-in-IllScoped g c = rw c.in-IllScoped.is c.put_rule-in-IllScoped.ensures

pub returns-in-NoKey : goal.returns-in-NoKey
returns-in-NoKey g c =
    rw c.in-NoKey.is (rw c.as_str-in-NoKey.ensures.value at
    (rw c.as_bytes-in-NoKey.ensures.value at c.put_no_key.ensures))

pub returns-in-Answer : goal.returns-in-Answer
returns-in-Answer g c = rw c.in-Answer.is c.put_answer.ensures
