-- What has to be believed of clocks and tables: the definitions that public contracts cite, in the order of document 01.
pub mod Clock
pub mod Tables
