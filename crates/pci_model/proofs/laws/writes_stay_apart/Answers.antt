use Rattle.pci_model.proofs.WriteLaws.{bar_apart, bar_not_config, bar_read_back, bars_apart, config_apart, config_not_bar}
use Rattle.pci_model.proofs.laws.writes_stay_apart.Goals as goal

pub returns-clause-config : goal.returns-clause-config
returns-clause-config c = config_apart

pub returns-clause-config_not_bar : goal.returns-clause-config_not_bar
returns-clause-config_not_bar c = config_not_bar

pub returns-clause-bar : goal.returns-clause-bar
returns-clause-bar c = bar_apart

pub returns-clause-bars : goal.returns-clause-bars
returns-clause-bars c = bars_apart

pub returns-clause-bar_not_config : goal.returns-clause-bar_not_config
returns-clause-bar_not_config c = bar_not_config

pub returns-clause-read_back : goal.returns-clause-read_back
returns-clause-read_back c = bar_read_back
