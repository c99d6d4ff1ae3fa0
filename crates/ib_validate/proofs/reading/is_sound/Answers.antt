use Rattle.ib_validate.proofs.SoundLaws.{sound-formed, formed-sound}
use Rattle.ib_validate.proofs.reading.is_sound.Goals as goal

pub returns-clause-sound : goal.returns-clause-sound
returns-clause-sound c = (λ t. sound-formed c.args.page.now (c.is_formed.ensures.formed.0 t), λ h. c.is_formed.ensures.formed.1 (formed-sound c.args.page.now h))
