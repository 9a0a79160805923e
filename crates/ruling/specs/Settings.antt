-- What the settings of the code mean: the settings of a link (rule/specs/Settings.antt).
use Rattle.rule.specs.Settings.{Settings, settings}
use Rattle.ruling.specs.declared.bounds.Settings.{Settings as Given}

abbrev pub settings_of : Given → Settings
settings_of g = settings g.room g.channels g.leap g.delays.now
