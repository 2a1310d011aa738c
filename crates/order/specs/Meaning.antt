-- What has to be believed of orders: the definitions that public contracts cite.
pub mod Order
